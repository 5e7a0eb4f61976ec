-- The pairs from a key to a key, and the first so many of them.
use Rattle.std.specs.Prelude.{ℕ, Bool, true, false, cond, ltb, List, [], ◌∷◌, ◌++◌, length}
use Rattle.std.specs.declared.cmp.Ordering.{Ordering}
use Rattle.std.specs.declared.cmp.Ordering.TheVariants.{Less, Equal, Greater}
use Rattle.object_view.specs.Layout.{Entry}
use Rattle.object_view.specs.Keys.{compare}

abbrev pub is_less : Ordering → Bool
is_less Less = true
is_less Equal = false
is_less Greater = false

-- a key by how it stands to the first bound, and to the second
abbrev pub is_within : Ordering → Ordering → Bool
is_within Less to = false
is_within Equal to = is_less to
is_within Greater to = is_less to

abbrev pub Pair : Type 0
Pair = List ℕ × ℕ

-- the pairs with from <= key < to
abbrev pub between : List ℕ → List ℕ → List Entry → List Pair
between from to [] = []
between from to (e ∷ es) =
    cond (is_within (compare e.key from) (compare e.key to)) ((e.key, e.word) ∷ between from to es) (between from to es)

-- more pairs behind those that there are, up to a limit
abbrev pub gathered : ℕ → List Pair → List Pair → List Pair
gathered limit out [] = out
gathered limit out (x ∷ xs) = cond (ltb (length out) limit) (gathered limit (out ++ x ∷ []) xs) out
