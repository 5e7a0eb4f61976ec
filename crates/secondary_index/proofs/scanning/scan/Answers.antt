use Rattle.std.proofs.Common.{◌≡◌, ℕ, List, Option, map, take, option_map, ap, ◌∙◌}
use Rattle.a1_value.specs.declared.value.Value.{Value}
use Rattle.object_view.proofs.Views.{tells_from}
use Rattle.object_btree.specs.Intervals.{between}
use Rattle.type_schema.specs.Objects.{index_entry}
use Rattle.secondary_index.specs.Changes.{greater, low_key, next_key, end_key}
use Rattle.secondary_index.proofs.Bounds.{scanned, range_reads, if_some, addressed}
use Rattle.secondary_index.proofs.scanning.scan.Goals as goal

pub returns-in_err-pairs-clause-tells : goal.returns-in_err-pairs-clause-tells
returns-in_err-pairs-clause-tells g c h owner rows places ag index =
    tells_from c.from_residual-in_err-pairs.result _ _ _ c.from_residual-in_err-pairs.ensures.1
    (c.in_err-pairs.ensures.tells h owner (map index_entry rows) places ag index.tree)

pub returns-in_err-pairs-clause-reads : goal.returns-in_err-pairs-clause-reads
returns-in_err-pairs-clause-reads g c h owner rows places ag index =
    range_reads c.args.tree.now.anchor index.tree.height index.tree.root _ _ _ _ _ _ _ (c.as_slice.ensures ∙ c.in_ok-first.ensures)
    (c.as_slice-2.ensures ∙ c.in_ok-end.ensures)
    (c.in_err-pairs.ensures.reads h owner (map index_entry rows) places ag index.tree)

pub returns-in_err-addressed-clause-reads : goal.returns-in_err-addressed-clause-reads
returns-in_err-addressed-clause-reads g c h owner rows places ag index =
    range_reads c.args.tree.now.anchor index.tree.height index.tree.root _ _ _ _ _ _ _ (c.as_slice.ensures ∙ c.in_ok-first.ensures)
    (c.as_slice-2.ensures ∙ c.in_ok-end.ensures)
    (c.in_ok-pairs.ensures.reads h owner (map index_entry rows) places ag index.tree)

pub returns-clause-reads : goal.returns-clause-reads
returns-clause-reads g c h owner rows places ag index =
    range_reads c.args.tree.now.anchor index.tree.height index.tree.root _ _ _ _ _ _ _ (c.as_slice.ensures ∙ c.in_ok-first.ensures)
    (c.as_slice-2.ensures ∙ c.in_ok-end.ensures)
    (c.in_ok-pairs.ensures.reads h owner (map index_entry rows) places ag index.tree)

pub returns-clause-tells : goal.returns-clause-tells
returns-clause-tells g c h owner rows places ag index =
    let low : Option Value = option_map (λ v. v.now) c.args.low in
    let high : Option Value = option_map (λ v. v.now) c.args.high in
    let after : Option (List ℕ) = option_map (λ a. a.now) c.args.after in
    let first : c.as_slice.result.now ≡ greater (low_key low) (next_key after) =
    c.as_slice.ensures ∙ c.in_ok-first.ensures in
    let end : c.as_slice-2.result.now ≡ end_key high = c.as_slice-2.ensures ∙ c.in_ok-end.ensures in
    c.in_ok-addressed.ensures ∙ ap (map addressed)
    (c.in_ok-pairs.ensures.tells h owner (map index_entry rows) places ag index.tree
    ∙ ap (λ (a : List ℕ). take c.args.limit (between a c.as_slice-2.result.now (map index_entry rows))) first
    ∙ ap (λ (b : List ℕ). take c.args.limit (between (greater (low_key low) (next_key after)) b
    (map index_entry rows))) end)
    ∙ scanned low high after c.args.limit rows (if_some c.args.low c.requires.low) (if_some c.args.high c.requires.high)
    index.fit
