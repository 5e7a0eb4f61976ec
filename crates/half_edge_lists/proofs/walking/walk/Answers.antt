use Rattle.std.proofs.Common.{◌≡◌, inl, ℕ, List, Option, ap}
use Rattle.std.specs.Prelude.{option_map}
use Rattle.a1_base.specs.declared.place.Addr.{Addr}
use Rattle.object_view.specs.Agreement.{Seen, State, stood}
use Rattle.object_view.specs.Parts.{ReadsOnly}
use Rattle.object_view.proofs.Moving.{onward_then}
use Rattle.object_view.proofs.Reading.{reads_weaker, reads_then}
use Rattle.type_schema.specs.declared.objects.Half.{Half}
use Rattle.type_schema.specs.Structures.{IsList, list_at}
use Rattle.half_edge_lists.specs.Changes.{WalkReads}
use Rattle.half_edge_lists.proofs.Halves.{list_later}
use Rattle.half_edge_lists.proofs.Walks.{tells_gave, reads_later}
use Rattle.half_edge_lists.proofs.walking.walk.Goals as goal

header_reads : (n : ℕ) (s : State) (owner at : Addr) (halves : List Half) (places : List Addr) (from : Option Half)
    (limit : ℕ) (old new : List Seen) → ReadsOnly (λ b. b ≡ owner) old new
    → ReadsOnly (WalkReads n s owner at halves places from limit) old new
header_reads n s owner at halves places from limit old new r =
    reads_weaker (λ b. b ≡ owner) (WalkReads n s owner at halves places from limit) old new (λ a e. inl e) r

pub returns-in_err-at-clause-tells : goal.returns-in_err-at-clause-tells
returns-in_err-at-clause-tells g c h graph fields halves places ag v l =
    tells_gave c.from_residual.result _ _ _ c.from_residual.ensures.1 (c.in_err-at.ensures.tells h graph fields ag v)

pub returns-in_err-at-clause-reads : goal.returns-in_err-at-clause-reads
returns-in_err-at-clause-reads g c h graph fields halves places ag v l =
    header_reads _ _ c.args.header _ halves places _ c.args.limit _ _ c.in_err-at.ensures.reads

pub returns-clause-tells : goal.returns-clause-tells
returns-clause-tells g c h graph fields halves places ag v l =
    let at : c.in_ok-at.at ≡ list_at c.args.out fields =
    c.in_ok-at.ensures.tells h graph fields (c.walk_at.ensures.onward.agreed h ag) v in
    let later : IsList (g.V.View.count c.list_at.new.view) (stood h (g.V.View.overlay c.list_at.new.view)) c.in_ok-at.at
    c.args.header halves places =
    list_later _ _ _ _ _ c.in_ok-at.at c.args.header halves places c.in_ok-at.ensures.onward.steady.count
    (ap (stood h) c.in_ok-at.ensures.overlay) at l in
    c.walk_at.ensures.tells h halves places ag later

pub returns-clause-reads : goal.returns-clause-reads
returns-clause-reads g c h graph fields halves places ag v l =
    let from : Option Half = option_map (λ f. f.now) c.args.from in
    let at : c.in_ok-at.at ≡ list_at c.args.out fields =
    c.in_ok-at.ensures.tells h graph fields (c.walk_at.ensures.onward.agreed h ag) v in
    let later : IsList (g.V.View.count c.list_at.new.view) (stood h (g.V.View.overlay c.list_at.new.view)) c.in_ok-at.at
    c.args.header halves places =
    list_later _ _ _ _ _ c.in_ok-at.at c.args.header halves places c.in_ok-at.ensures.onward.steady.count
    (ap (stood h) c.in_ok-at.ensures.overlay) at l in
    reads_then _ (g.V.View.trace c.args.view.now) (g.V.View.trace c.list_at.new.view) _
    (header_reads _ _ c.args.header _ halves places from c.args.limit _ _ c.in_ok-at.ensures.reads)
    (reads_later _ _ _ _ c.args.header _ c.in_ok-at.at halves places from c.args.limit _ _
    c.in_ok-at.ensures.onward.steady.count (ap (stood h) c.in_ok-at.ensures.overlay) at
    (c.walk_at.ensures.reads h halves places ag later))

pub returns-clause-onward : goal.returns-clause-onward
returns-clause-onward g c = onward_then _ _ _ _ _ _ _ _ c.in_ok-at.ensures.onward c.walk_at.ensures.onward
