use Rattle.std.proofs.Common.{◌≡◌, ◌<◌, ℕ, List, ◌∷◌, ◌++◌, [], length, take, get_or, Option, Some, None, sym, ap, subst, ◌∙◌, arith}
use Rattle.std.specs.Prelude.{map, option_map}
use Rattle.std.proofs.lemmas.List.{length-map}
use Rattle.object_view.proofs.Layouts.{some_is}
use Rattle.object_btree.specs.Intervals.{Pair}
use Rattle.type_schema.specs.declared.objects.Half.{Half}
use Rattle.type_schema.specs.Objects.{half_key_of}
use Rattle.type_schema.specs.Structures.{half_of}
use Rattle.half_edge_lists.specs.Forms.{half_pair}
use Rattle.half_edge_lists.proofs.Decoding.{PairStep, pair_step, take_whole}
use Rattle.half_edge_lists.proofs.walking.halves_of.Goals as goal

pub returns-in_default : goal.returns-in_default
returns-in_default c halves fit pairs =
    let s : PairStep halves c.loop-pair.pair-index c.pair-item.result.0 c.pair-item.result.1 =
    pair_step halves c.loop-pair.pair-index c.pair-item.result fit
    (subst (λ (ps : List Pair). c.loop-pair.pair-index < length ps) pairs c.loop-pair-test.true)
    (c.pair-item.is ∙ ap (λ (ps : List Pair). get_or ps c.loop-pair.pair-index c.pair-item.result) pairs) in
    let n : ◌≡◌ {A = Option Half} None (Some s.here) = c.in_default.ensures
    ∙ ap (λ (k : List ℕ). option_map (λ x. half_of x.0 x.1 c.pair-item.result.1) (half_key_of k)) c.as_slice.ensures
    ∙ s.read in
    cc

pub loop-pair-preserved : goal.loop-pair-preserved
loop-pair-preserved c halves fit pairs =
    let s : PairStep halves c.loop-pair.pair-index c.pair-item.result.0 c.pair-item.result.1 =
    pair_step halves c.loop-pair.pair-index c.pair-item.result fit
    (subst (λ (ps : List Pair). c.loop-pair.pair-index < length ps) pairs c.loop-pair-test.true)
    (c.pair-item.is ∙ ap (λ (ps : List Pair). get_or ps c.loop-pair.pair-index c.pair-item.result) pairs) in
    let same : c.in-Some.half ≡ s.here = some_is _ _ (c.in-Some.ensures
    ∙ ap (λ (k : List ℕ). option_map (λ x. half_of x.0 x.1 c.pair-item.result.1) (half_key_of k)) c.as_slice.ensures
    ∙ s.read) in
    c.in_ok-push_half.ensures
    ∙ ap (λ (t : List Half). t ++ c.in-Some.half ∷ []) (c.loop-pair.invariant halves fit pairs)
    ∙ ap (λ (h : Half). take c.loop-pair.pair-index halves ++ h ∷ []) same ∙ sym s.taken

pub returns : goal.returns
returns c halves fit pairs =
    let long : length c.args.pairs.now ≡ length (map half_pair halves) = ap length pairs in
    let done = c.loop-pair-test.false in
    c.loop-pair.invariant halves fit pairs
    ∙ take_whole halves c.loop-pair.pair-index (omega (arith, long, length-map halves half_pair, done))
