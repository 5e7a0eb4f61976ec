-- How many edge patterns stand on a path of a pattern.
use Rattle.std.specs.Prelude.{ℕ, ◌+◌, max, List, [], ◌∷◌, Option, Some, None}
use Rattle.a1ql_reader.specs.declared.patterns.VertexPattern.{VertexPattern, VertexPattern-F, fold-VertexPattern}
use Rattle.a1ql_reader.specs.declared.patterns.Hop.{Hop, Hop-F, fold-Hop}

abbrev pub deepest : List ℕ → ℕ
deepest [] = 0
deepest (n ∷ ns) = max n (deepest ns)

abbrev pub next_depth : Option ℕ → ℕ
next_depth None = 0
next_depth (Some n) = n

-- an edge pattern, and those behind it
abbrev pub hop_step : Hop-F ℕ ℕ → ℕ
hop_step hop = hop.to + 1

abbrev pub vertex_step : VertexPattern-F ℕ ℕ → ℕ
vertex_step pattern = max (deepest pattern.matches) (next_depth pattern.hop)

-- the most edge patterns on a path from the root, through hops and matches
abbrev pub depth : VertexPattern → ℕ
depth = fold-VertexPattern ℕ ℕ hop_step vertex_step

abbrev pub hop_depth : Hop → ℕ
hop_depth = fold-Hop ℕ ℕ hop_step vertex_step
