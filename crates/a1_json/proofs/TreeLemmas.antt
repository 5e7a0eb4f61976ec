-- The tree of a text, and lists that are put together from their front.
use Rattle.std.proofs.Common.{◌≡◌, ℕ, List, [], ◌∷◌, ◌++◌, Option, Some, None, refl, sym, ap, append_assoc, Bool, true, false, Err, Ok, Result, IfOk, IfErr, IsUtf8, if◌then◌else◌}
use Rattle.std.specs.Str.{is_utf8}
use Rattle.std.proofs.lemmas.Str.{is_utf8-from_IsUtf8, IsUtf8-from_is_utf8}
use Rattle.serde_json.specs.Data.{Data}
use Rattle.serde_json.specs.Read.{read}
use Rattle.a1_json.specs.Tree.{before, behind, tree_of, tree_or_fault, json_of, IsTreeFault, GivesUnlessMemory}
use Rattle.a1_json.specs.declared.tree.Json.{Json}
use Rattle.a1_json.specs.declared.tree.JsonFault.{JsonFault}
use Rattle.a1_json.specs.declared.tree.JsonFault.TheVariants as fault

pub none_behind : {X : Type 0} (r : Option (List X)) → r ≡ behind [] r
none_behind None = refl
none_behind (Some ys) = refl

pub one_behind : {X : Type 0} (xs : List X) (x : X) (r : Option (List X)) → behind xs (before (Some x) r) ≡ behind (xs ++ x ∷ []) r
one_behind xs x None = refl
one_behind xs x (Some ys) = ap Some (sym (append_assoc xs (x ∷ []) ys))

-- the tree of what a text was read as is what its bytes say
pub value_read : (bytes : List ℕ) (d : Data) (result : Result Json JsonFault) → IsUtf8 bytes → read bytes ≡ Some d
    → IfOk result (λ j. tree_of d ≡ Some j) → IfErr result (λ e. IsTreeFault e (tree_of d)) → GivesUnlessMemory result (json_of bytes)
unfolding json_of
value_read bytes d (Ok j) text is tree fault = rw (is_utf8-from_IsUtf8 bytes text, is, tree) refl
value_read bytes d (Err fault.NotJson) text is tree fault = absurd fault
value_read bytes d (Err fault.NotWhole) text is tree fault = rw (is_utf8-from_IsUtf8 bytes text, is, fault) refl
value_read bytes d (Err fault.Memory) text is tree fault = tt

-- bytes that were not read say nothing
pub nothing_read : (bytes : List ℕ) → (IsUtf8 bytes → read bytes ≡ None) → json_of bytes ≡ Err fault.NotJson
unfolding json_of
nothing_read bytes none = by_text (is_utf8 bytes) refl
  where
    by_text : (text : Bool) → is_utf8 bytes ≡ text → (if text then tree_or_fault (read bytes) else Err fault.NotJson) ≡ Err fault.NotJson
    by_text true is = rw (none (IsUtf8-from_is_utf8 bytes is)) refl
    by_text false is = refl
