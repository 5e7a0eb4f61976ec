-- One level of a pattern, with what is said of the patterns inside.
use Rattle.std.proofs.Common.{◌≡◌, ℕ, List, map, option_map, Option, Some, None, refl}
use Rattle.a1ql_reader.specs.declared.patterns.Test.{Test}
use Rattle.a1ql_reader.specs.declared.patterns.Select.{Select}
use Rattle.a1ql_reader.specs.declared.patterns.VertexPattern.{VertexPattern, VertexPattern-F, map-VertexPattern}
use Rattle.a1ql_reader.specs.declared.patterns.Hop.{Hop}

module _ {A B : Type 0} (f : Hop → A) (g : VertexPattern → B) where
  abbrev pub mapped : VertexPattern-F Hop VertexPattern → VertexPattern-F A B
  mapped = map-VertexPattern Hop VertexPattern A B f g

  hop_is : (kind : List ℕ) (tests : List Test) (matches : List Hop) (select : Select) (hop : Option Hop) → (mapped (record { kind = kind; tests = tests; matches = matches; hop = hop; select = select })).hop ≡ option_map f hop
  hop_is kind tests matches select None = refl
  hop_is kind tests matches select (Some h) = refl

  pub layer_is : (d : VertexPattern-F Hop VertexPattern) → mapped d ≡ record { kind = d.kind; tests = d.tests; matches = map f d.matches; hop = option_map f d.hop; select = d.select }
  layer_is d = λ i. record { kind = d.kind; tests = d.tests; matches = map f d.matches; hop = hop_is d.kind d.tests d.matches d.select d.hop i; select = d.select }
