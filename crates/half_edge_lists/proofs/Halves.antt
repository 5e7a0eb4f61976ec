-- What the objects of a vertex's lists tell, and half-edges as entries.
use Rattle.std.proofs.Common.{◌≡◌, inl, inr, ℕ, List, [], ◌∷◌, ◌++◌, length, Some, Result, Ok, Err, refl, sym, ap, subst, ◌∙◌, arith}
use Rattle.std.specs.Prelude.{map, option_map, IsErrAnd}
use Rattle.std.specs.List.{AllByRecursion}
use Rattle.std.specs.Int.{w64, to_be_bytes}
use Rattle.a1_base.specs.declared.place.Addr.{Addr}
use Rattle.object_view.specs.Agreement.{State}
use Rattle.object_view.specs.Layout.{IsEntry, entries, word_of}
use Rattle.object_view.specs.Parts.{Gives}
use Rattle.object_view.specs.declared.parts.PartFault.{PartFault}
use Rattle.object_view.specs.declared.parts.PartFault.TheVariants as part
use Rattle.object_view.proofs.Layouts.{some_is}
use Rattle.type_schema.specs.declared.objects.Header.{Header}
use Rattle.type_schema.specs.declared.objects.Half.{Half}
use Rattle.type_schema.specs.Objects.{addr_bytes, half_key, half_key_of, IsHalf, half_entry, header_of, list_front, long_of}
use Rattle.type_schema.specs.Structures.{IsVertex, IsList, IsShort, IsLong, half_of}
use Rattle.type_schema.proofs.ObjectLemmas.{word_fits, addr_back, header_exact, half_exact, list_exact, long_exact}

-- a vertex's header is read
pub header_read : (nodes : ℕ) (s : State) (at graph : Addr) (fields : Header) (bytes : List ℕ)
    → IsVertex nodes s at graph fields → s at ≡ Some bytes → header_of bytes ≡ Some (graph, fields)
header_read nodes s at graph fields bytes v here =
    ap header_of (some_is _ _ (sym here ∙ v.bytes)) ∙ header_exact.again (graph, fields) (v.graph_fits, v.fit)

-- how a list's object is read: its owner, its form, and the rest
pub record Told (nodes : ℕ) (s : State) (at owner : Addr) (halves : List Half) (places : List Addr)
    (bytes : List ℕ) : Type 0 where
  pub code : ℕ
  pub rest : List ℕ
  pub front : list_front bytes ≡ Some ((owner, code), rest)
  pub short : code ≡ 0 → IsShort s at owner halves places × (rest ≡ entries (map half_entry halves))
  pub long : (code ≡ 0 → ⊥) → (long : IsLong nodes s at owner halves places)
      × (long_of rest ≡ Some (length halves, long.anchor))

-- a list's object is read so
pub told : (nodes : ℕ) (s : State) (at owner : Addr) (halves : List Half) (places : List Addr) (bytes : List ℕ)
    → s at ≡ Some bytes → IsList nodes s at owner halves places → Told nodes s at owner halves places bytes
told nodes s at owner halves places bytes here l = elim l.form [
  | inl short ↦ record {
    code = 0;
    rest = entries (map half_entry halves);
    front = ap list_front (some_is _ _ (sym here ∙ short.bytes))
        ∙ list_exact.again (owner, 0) (entries (map half_entry halves)) (l.owner_fits, omega arith);
    short = λ z. (short, refl);
    long = λ n. absurd (n refl);
  }
  | inr long ↦ record {
    code = 1;
    rest = to_be_bytes w64 (length halves) ++ addr_bytes long.anchor;
    front = ap list_front (some_is _ _ (sym here ∙ long.bytes))
        ∙ list_exact.again (owner, 1) (to_be_bytes w64 (length halves) ++ addr_bytes long.anchor)
        (l.owner_fits, omega arith);
    short = λ z. absurd (omega (arith, z));
    long = λ n. (long, long_exact.again (length halves, long.anchor) (long.count, long.anchor_fits));
  }
]

-- something stands at a list's address
pub list_there : (nodes : ℕ) (s : State) (at owner : Addr) (halves : List Half) (places : List Addr)
    → IsList nodes s at owner halves places → (bytes : List ℕ) × (s at ≡ Some bytes)
list_there nodes s at owner halves places l =
    elim l.form [ inl short ↦ (_, short.bytes) | inr long ↦ (_, long.bytes) ]

-- the entry of a half-edge fits
pub half_fits : (h : Half) → IsHalf h → IsEntry (half_entry h)
half_fits h f = record { key = omega arith; word = word_fits h.body f.body }

-- the entries of half-edges fit
pub halves_fit : (hs : List Half) → AllByRecursion IsHalf hs → AllByRecursion IsEntry (map half_entry hs)
halves_fit [] f = tt
halves_fit (h ∷ hs) f = (half_fits h f.0, halves_fit hs f.1)

-- a half-edge is read from its key and its word
pub half_back : (h : Half) → IsHalf h
    → option_map (λ x. half_of x.0 x.1 (word_of h.body)) (half_key_of (half_key h.kind h.far)) ≡ Some h
half_back h f =
    ap (option_map (λ x. half_of x.0 x.1 (word_of h.body))) (half_exact.again (h.kind, h.far) (f.kind, f.far))
    ∙ ap (λ (b : Addr). Some (record { kind = h.kind; far = h.far; body = b })) (addr_back h.body f.body)

-- the same list in a later view
pub list_later : (n m : ℕ) (s t : State) (at a owner : Addr) (halves : List Half) (places : List Addr) → m ≡ n → t ≡ s
    → a ≡ at → IsList n s at owner halves places → IsList m t a owner halves places
list_later n m s t at a owner halves places count same here l =
    subst (λ (k : ℕ). IsList k t a owner halves places) (sym count)
    (subst (λ (u : State). IsList n u a owner halves places) (sym same)
    (subst (λ (b : Addr). IsList n s b owner halves places) (sym here) l))

gives_err : {A B : Type 0} (e : PartFault) (a : A) (b : B) → Gives {A = B} (Err e) b → Gives {A = A} (Err e) a
gives_err part.Memory a b p = tt
gives_err (part.Spent n) a b p = p
gives_err (part.Torn at) a b p = p
gives_err part.Tall a b p = p

-- a look's fault handed on by `?`
pub gives_from : {A B : Type 0} (r : Result A PartFault) (e : PartFault) (a : A) (b : B) → IsErrAnd r (λ f. f ≡ e)
    → Gives {A = B} (Err e) b → Gives r a
gives_from (Ok x) e a b h p = absurd h
gives_from {A} (Err f) e a b h p =
    subst (λ (x : PartFault). Gives {A = A} (Err x) a) (sym h) (gives_err e a b p)
