use Rattle.std.proofs.Common.{◌≡◌, filter, map, ap, ◌∙◌, subst}
use Rattle.std.specs.BTreeMap.Range.{entries_between}
use Rattle.std.specs.List.{take_while}
use Rattle.std.specs.Result.{IfOk}
use Rattle.std.specs.declared.ops.Bound.TheVariants.{Included, Unbounded}
use Rattle.graph_maps.specs.Places.{kept}
use Rattle.graph_maps.proofs.PartLemmas.{part_is}
use Rattle.graph_maps.proofs.places.Places.part.Goals as goal

pub returns : goal.returns
returns g c =
    let has = g.P.Part.has c.args.part.now in
    let places = c.self.inside.map.entries in
    let front : c.range.result ≡ entries_between g.K.Ord.cmp (Included (g.P.Part.start c.args.part.now)) Unbounded places =
    c.range.ensures.between tt ∙ ap (λ s. entries_between g.K.Ord.cmp (Included s) Unbounded places) c.start.ensures in
    let all : kept (take_while (λ e. has e.0) c.range.result) ≡ filter (λ e. has e.0) (kept places) =
    ap (λ es. kept (take_while (λ e. has e.0) es)) front
    ∙ part_is has g.K.Ord.cmp g.K.ExactOrd.IsSound (g.P.Part.start c.args.part.now) (g.met.P.Part.first c.args.part.now)
    (g.met.P.Part.hangs_together c.args.part.now) places c.self.invariant.ordered c.self.invariant.sound in
    rw (← c.self.view_is) (subst (λ z. IfOk c.leading.result (λ rows. map (λ e. (e.0.now, e.1.now)) rows.items ≡ z)) all c.leading.ensures)
