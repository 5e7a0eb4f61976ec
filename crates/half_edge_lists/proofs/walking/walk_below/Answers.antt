use Rattle.std.proofs.Common.{◌≡◌, ℕ, List, take, Option, sym, ap, subst, ◌∙◌}
use Rattle.std.specs.Prelude.{map, option_map}
use Rattle.a1_base.specs.declared.place.Addr.{Addr}
use Rattle.object_view.specs.Agreement.{Seen, State, stood}
use Rattle.object_view.specs.Parts.{ReadsOnly}
use Rattle.object_view.specs.Trees.{IsTree}
use Rattle.object_view.proofs.Views.{tells_from}
use Rattle.object_btree.specs.Intervals.{between, Pair}
use Rattle.object_btree.specs.Levels.{RangeReads}
use Rattle.type_schema.specs.declared.objects.Half.{Half}
use Rattle.type_schema.specs.Objects.{IsHalf, half_entry}
use Rattle.half_edge_lists.specs.Changes.{from_half, last_key}
use Rattle.half_edge_lists.specs.Forms.{half_pair}
use Rattle.half_edge_lists.proofs.Behind.{from_pairs, take_map, all_take, from_all}
use Rattle.half_edge_lists.proofs.walking.walk_below.Goals as goal

reads_at : (n : ℕ) (s : State) (at anchor a : Addr) (halves : List Half) (below : List Addr) (from first : List ℕ)
    (limit : ℕ) (old new : List Seen) → a ≡ anchor → first ≡ from
    → ((tree : IsTree n s anchor at (map half_entry halves) below)
    → ReadsOnly (RangeReads anchor tree.height tree.root first last_key limit) old new)
    → (tree : IsTree n s a at (map half_entry halves) below)
    → ReadsOnly (RangeReads a tree.height tree.root from last_key limit) old new
reads_at n s at anchor a halves below from first limit old new same key reads =
    subst (λ (k : List ℕ). (tree : IsTree n s a at (map half_entry halves) below)
    → ReadsOnly (RangeReads a tree.height tree.root k last_key limit) old new) key
    (subst (λ (b : Addr). (tree : IsTree n s b at (map half_entry halves) below)
    → ReadsOnly (RangeReads b tree.height tree.root first last_key limit) old new) (sym same) reads)

pub returns-in_err-pairs-clause-tells : goal.returns-in_err-pairs-clause-tells
returns-in_err-pairs-clause-tells g c h owner halves places ag fit rising long same =
    tells_from c.from_residual-in_err-pairs.result _ _ _ c.from_residual-in_err-pairs.ensures.1
    (c.in_err-pairs.ensures.tells h c.args.at (map half_entry halves) long.below ag
    (subst (λ (a : Addr). IsTree (g.V.View.count c.args.view.now) (stood h (g.V.View.overlay c.args.view.now)) a c.args.at
    (map half_entry halves) long.below) same long.tree))

pub returns-in_err-pairs-clause-reads : goal.returns-in_err-pairs-clause-reads
returns-in_err-pairs-clause-reads g c h owner halves places ag long same =
    reads_at _ _ c.args.at c.args.anchor long.anchor halves long.below _ _ c.args.limit _ _ same
    (c.as_slice.ensures ∙ c.in_ok-first.ensures)
    (λ tree. c.in_err-pairs.ensures.reads h c.args.at (map half_entry halves) long.below ag tree) long.tree

pub returns-clause-tells : goal.returns-clause-tells
returns-clause-tells g c h owner halves places ag fit rising long same =
    let from : Option Half = option_map (λ f. f.now) c.args.from in
    let tree : IsTree (g.V.View.count c.args.view.now) (stood h (g.V.View.overlay c.args.view.now)) c.args.anchor c.args.at
    (map half_entry halves) long.below =
    subst (λ (a : Addr). IsTree (g.V.View.count c.args.view.now) (stood h (g.V.View.overlay c.args.view.now)) a c.args.at
    (map half_entry halves) long.below) same long.tree in
    let pairs : c.as_slice-2.result.now ≡ map half_pair (take c.args.limit (from_half from halves)) =
    c.as_slice-2.ensures.value
    ∙ c.in_ok-pairs.ensures.tells h c.args.at (map half_entry halves) long.below ag tree
    ∙ ap (λ (k : List ℕ). take c.args.limit (between k last_key (map half_entry halves)))
    (c.as_slice.ensures ∙ c.in_ok-first.ensures)
    ∙ ap (λ (t : List Pair). take c.args.limit t) (from_pairs from halves rising)
    ∙ take_map half_pair c.args.limit (from_half from halves) in
    c.halves_of.ensures (take c.args.limit (from_half from halves))
    (all_take IsHalf c.args.limit (from_half from halves) (from_all IsHalf from halves fit)) pairs

pub returns-clause-reads : goal.returns-clause-reads
returns-clause-reads g c h owner halves places ag long same =
    reads_at _ _ c.args.at c.args.anchor long.anchor halves long.below _ _ c.args.limit _ _ same
    (c.as_slice.ensures ∙ c.in_ok-first.ensures)
    (λ tree. c.in_ok-pairs.ensures.reads h c.args.at (map half_entry halves) long.below ag tree) long.tree
