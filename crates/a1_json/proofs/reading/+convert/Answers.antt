use Rattle.std.proofs.Common.{◌∙◌, sym, refl}
use Rattle.std.proofs.lemmas.List.Folds.{list_all-append}
use Rattle.a1_json.proofs.OrderLemmas.{list_ordered, object_ordered, names_of_map, one_named}
use Rattle.a1_json.proofs.TreeLemmas.{none_behind, one_behind}
use Rattle.a1_json.proofs.reading.+convert.Goals as goal

pub convert-returns-in_ok-convert_items-in-Array-clause-order : goal.convert-returns-in_ok-convert_items-in-Array-clause-order
convert-returns-in_ok-convert_items-in-Array-clause-order t c = list_ordered _ ∙ c.in_ok-convert_items-in-Array.ensures.order

pub convert-returns-in_ok-convert_members-in-Object-clause-order : goal.convert-returns-in_ok-convert_members-in-Object-clause-order
convert-returns-in_ok-convert_members-in-Object-clause-order t c = object_ordered _ ∙ c.in_ok-convert_members-in-Object.ensures.order

pub convert_members-loop-name-init : goal.convert_members-loop-name-init
convert_members-loop-name-init t c =
    let given = c.into_iter-name-iterator.ensures.into_iter_gives in
    let empty = c.from_vec-members.ensures ∙ c.in_ok-with_capacity.ensures.items in
    record {
      tree = rw (empty, given.0) (none_behind _);
      names = rw (empty, given.0) (names_of_map _ given.5);
      order = rw empty refl;
    }

pub convert_members-loop-name-preserved : goal.convert_members-loop-name-preserved
convert_members-loop-name-preserved t c =
    let steps = c.in-Some.ensures.steps in
    let done = c.in_ok-push.ensures.ok in
    let name = c.from_string.ensures in
    let left = rw steps at c.loop-name.invariant.names in
    record {
      tree = c.loop-name.invariant.tree ∙ rw (steps, c.in_ok-value.ensures.ok, done, name) (one_behind _ _ _);
      names = rw (done, name) (sym (one_named c.loop-name.members (_, c.in_ok-value.value) _) ∙ left);
      order = rw (done, list_all-append, c.loop-name.invariant.order, c.in_ok-value.ensures.order) refl;
    }
