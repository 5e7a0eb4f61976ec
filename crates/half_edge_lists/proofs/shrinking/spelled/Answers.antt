use Rattle.std.proofs.Common.{◌≡◌, ◌<◌, ℕ, [], ◌++◌, length, get_or, map, ap, ◌∙◌, arith}
use Rattle.std.proofs.lemmas.List.{length-map}
use Rattle.object_view.specs.Layout.{entry}
use Rattle.object_btree.specs.Intervals.{Pair}
use Rattle.half_edge_lists.specs.Forms.{half_pair}
use Rattle.half_edge_lists.proofs.Turning.{NthHalf, nth_half, nth_key, spell_next}
use Rattle.half_edge_lists.proofs.shrinking.spelled.Goals as goal

pub returns-then-key-ne-HALF_KEY : goal.returns-then-key-ne-HALF_KEY
returns-then-key-ne-HALF_KEY c halves pairs =
    let p : Pair = c.pair-item.result in
    let i : ℕ = c.loop-pair.pair-index in
    let lt : c.loop-pair.pair-index < length c.args.pairs.now = c.loop-pair-test.true in
    let many : length c.args.pairs.now ≡ length (map half_pair halves) = ap length pairs in
    let n : NthHalf halves c.loop-pair.pair-index c.pair-item.result =
    nth_half halves i p p (omega (arith, lt, many, length-map halves half_pair))
    (c.pair-item.is ∙ ap (λ xs. get_or xs c.loop-pair.pair-index c.pair-item.result) pairs) in
    c.if-key-ne-HALF_KEY.true (ap length c.as_slice-key.ensures ∙ nth_key halves i p n)

pub loop-pair-preserved : goal.loop-pair-preserved
loop-pair-preserved c halves pairs =
    let p : Pair = c.pair-item.result in
    let i : ℕ = c.loop-pair.pair-index in
    let lt : c.loop-pair.pair-index < length c.args.pairs.now = c.loop-pair-test.true in
    let many : length c.args.pairs.now ≡ length (map half_pair halves) = ap length pairs in
    let n : NthHalf halves c.loop-pair.pair-index c.pair-item.result =
    nth_half halves i p p (omega (arith, lt, many, length-map halves half_pair))
    (c.pair-item.is ∙ ap (λ xs. get_or xs c.loop-pair.pair-index c.pair-item.result) pairs) in
    spell_next halves i p c.loop-pair.out c.as_slice.result.now c.append.new.self n (c.loop-pair.invariant halves pairs)
    (c.as_slice.ensures.value ∙ c.in_ok-entry.ensures
    ∙ ap (λ k. entry (record { key = k; word = p.1 }) ++ []) c.as_slice-key.ensures)
    c.in_ok-append.ensures.ok
