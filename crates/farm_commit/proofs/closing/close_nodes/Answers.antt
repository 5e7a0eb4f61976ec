use Rattle.std.proofs.Common.{◌≡◌, ◌+◌, ◌<◌, ◌≤◌, ℕ, List, [], ◌∷◌, ◌++◌, Some, length, slice_get, refl, sym, ap, ◌∙◌, subst, append_assoc, length-append, arith, rules}
use Rattle.std.proofs.lemmas.Option.{slice_get_read, slice_get_within}
use Rattle.std.proofs.lemmas.List.{length-set, nil_from_length}
use Rattle.std.specs.Vec.Iter.{into_iter_items}
use Rattle.write_set.proofs.Lists.{at_set_other}
use Rattle.transaction_part.specs.declared.part.Part.{Part}
use Rattle.farm_commit.specs.Nodes.{Lock}
use Rattle.farm_commit.specs.Ending.{EndsAll}
use Rattle.farm_commit.proofs.Ends.{at_middle, ends_more, ends_none}
use Rattle.farm_commit.proofs.closing.close_nodes.Goals as goal

-- where the iteration stands: the turnstile, and its part
lock_at : (all done left rest : List Lock) (l : Lock) (n : ℕ) → all ≡ done ++ left → left ≡ l ∷ rest → n ≡ length done → slice_get all n ≡ Some l
lock_at all done left rest l n is step count =
    ap (slice_get all) count ∙ (ap (λ (ls : List Lock). slice_get ls (length done)) (is ∙ ap (λ (ls : List Lock). done ++ ls) step) ∙ at_middle done rest l)

part_at : (locks : List Lock) (first now : List Part) (n : ℕ) (l : Lock) (p : Part) → length first ≡ length locks → length now ≡ length first
    → slice_get locks n ≡ Some l → slice_get now n ≡ slice_get first n → (n < length now → slice_get now n ≡ Some p) → slice_get first n ≡ Some p
part_at locks first now n l p count same at kept read =
    let low : n < length locks = slice_get_within locks n l at in
    sym kept ∙ read (omega (arith, low, count, same))

pub loop-lock-init : goal.loop-lock-init
loop-lock-init c = record {
  all = search rules;
  count = c.requires.room.0;
  room = c.requires.room.1;
  parts = refl;
  rest = λ i low. refl;
  ends = (let none : length c.args.room.items ≡ 0 = search rules in ends_none [] c.args.parts.items c.args.room.items refl (nil_from_length _ none));
}

pub close_node-node-requires : goal.close_node-node-requires
close_node-node-requires c =
    let v = c.loop-lock.invariant in
    let n = c.len.result in
    let at = lock_at c.args.locks.items c.loop-lock.yielded (into_iter_items c.loop-lock.lock-iterator) (into_iter_items c.next.new.self) c.in-Some.lock n v.all
    c.in-Some.ensures.steps.0 (c.len.ensures ∙ v.count) in
    let here = part_at c.args.locks.items c.args.parts.items c.loop-lock.parts.items n c.in-Some.lock c.index_mut.result.now c.requires.whole.count v.parts at
    (v.rest n (let e = c.len.ensures in omega (arith, e)))
    (λ low. slice_get_read c.loop-lock.parts.items (length c.loop-lock.parts.items) n c.index_mut.result.now refl low c.index_mut.ensures.value) in
    c.requires.whole.each n c.in-Some.lock c.index_mut.result.now at here

pub loop-lock-preserved : goal.loop-lock-preserved
loop-lock-preserved c =
    let v = c.loop-lock.invariant in
    let n = c.len.result in
    let len = c.len.ensures in
    let more = c.push_reserved.ensures.len in
    let at = lock_at c.args.locks.items c.loop-lock.yielded (into_iter_items c.loop-lock.lock-iterator) (into_iter_items c.next.new.self) c.in-Some.lock n v.all
    c.in-Some.ensures.steps.0 (c.len.ensures ∙ v.count) in
    let here = part_at c.args.locks.items c.args.parts.items c.loop-lock.parts.items n c.in-Some.lock c.index_mut.result.now c.requires.whole.count v.parts at
    (v.rest n (omega (arith, len)))
    (λ low. slice_get_read c.loop-lock.parts.items (length c.loop-lock.parts.items) n c.index_mut.result.now refl low c.index_mut.ensures.value) in
    record {
      all = v.all ∙ (ap (λ (ls : List Lock). c.loop-lock.yielded ++ ls) c.in-Some.ensures.steps.0
          ∙ sym (append_assoc c.loop-lock.yielded (c.in-Some.lock ∷ []) (into_iter_items c.next.new.self)));
      count = more ∙ (ap (λ (k : ℕ). k + 1) v.count ∙ sym (length-append c.loop-lock.yielded (c.in-Some.lock ∷ [])));
      room = subst (λ (k : ℕ). length c.args.locks.items ≤ k) (sym c.push_reserved.ensures.capacity) v.room;
      parts = length-set c.loop-lock.parts.items n _ ∙ v.parts;
      rest = λ i past. at_set_other c.loop-lock.parts.items n i _ (λ (e : i ≡ n). omega (arith, past, more, len, e))
          ∙ v.rest i (omega (arith, past, more));
      ends = subst (EndsAll (c.loop-lock.yielded ++ c.in-Some.lock ∷ []) c.args.parts.items) (sym c.push_reserved.ensures.items)
          (ends_more c.loop-lock.yielded c.args.parts.items c.loop-lock.room.items c.in-Some.lock c.index_mut.result.now c.close_node-node.result
          (ap (slice_get c.args.parts.items) (sym (len ∙ v.count)) ∙ here)
          record { stands = c.close_node-node.ensures.stands; first = c.close_node-node.ensures.first } v.ends);
    }
