use Rattle.std.proofs.Common.{◌≡◌, ◌+◌, ℕ, length, Ok, sym, subst, arith}
use Rattle.std.proofs.Math.Nat.{mod-eq_of_lt}
use Rattle.object_view.specs.Agreement.{stood, State}
use Rattle.object_view.specs.Layout.{Entry}
use Rattle.object_view.specs.Trees.{IsTree}
use Rattle.object_view.proofs.Layouts.{none_left}
use Rattle.object_view.proofs.Moving.{onward_then}
use Rattle.object_view.proofs.Views.{tells_from}
use Rattle.object_btree.specs.Changes.{InsertTells}
use Rattle.half_edge_lists.proofs.Filling.{NextHalf, next_half, next_key, filled_few, filled_more, filled_all, few_tells}
use Rattle.half_edge_lists.proofs.Halves.{halves_fit}
use Rattle.half_edge_lists.proofs.growing.fill.Goals as goal
use Rattle.half_edge_lists.proofs.growing.fill.Goals.{then-key-lt1-via-then-key-lt1, then-key-lt1-via-else-key-lt1+then-key-gt1100}

pub returns-in_default-clause-tells : goal.returns-in_default-clause-tells
returns-in_default-clause-tells g c heap halves places ag fit rising few body tree =
    let f = c.each.invariant.filled heap halves places ag fit rising few body tree in
    none_left _ _ (halves_fit f.left f.fit) f.rest_is c.each-test.true c.in_default.ensures.tells

pub returns-then-key-lt1-clause-tells : goal.returns-then-key-lt1-clause-tells
returns-then-key-lt1-clause-tells g c heap halves places ag fit rising few body tree =
    let f = c.each.invariant.filled heap halves places ag fit rising few body tree in
    let e : Entry = record { key = c.in-Some.key.now; word = c.in-Some.word } in
    let n : NextHalf f.left e c.in-Some.after.now =
    next_half _ f.left e _ f.fit f.rest_is c.each-test.true c.in-Some.ensures.tells in
    let k : length c.in-Some.key.now ≡ 12 = next_key f.left e _ n in
    elim c.then-key-lt1.branch [
      | then-key-lt1-via-then-key-lt1 w ↦ let t = w.if-key-lt1.true in omega (arith, k, t)
      | then-key-lt1-via-else-key-lt1+then-key-gt1100 w ↦ let t = w.if-key-gt1100.true in omega (arith, k, t)
    ]

pub returns-in_err-insert-clause-tells : goal.returns-in_err-insert-clause-tells
returns-in_err-insert-clause-tells g c heap halves places ag fit rising few body tree =
    let nodes : ℕ = g.V.View.count c.args.view.now in
    let t : State = stood heap (g.V.View.overlay c.each.view) in
    let u : State = stood heap (g.V.View.overlay c.insert.new.view) in
    let f = c.each.invariant.filled heap halves places (c.in_err-insert.ensures.onward.agreed heap ag) fit rising few body
    tree in
    let all : length halves ≡ length f.done + length f.left = filled_few _ _ _ _ _ _ halves _ _ f in
    tells_from c.from_residual.result _ _ (λ (x : ℕ). ℕ) c.from_residual.ensures.1
    (few_tells (g.V.View.count c.each.view) t u c.args.tree.anchor c.args.at f.done f.becomes.now c.in-Some.key.now
    c.in-Some.word c.in_err-insert.field-0.0 (λ (x : ℕ). ℕ) (omega (arith, all, few))
    (c.in_err-insert.ensures.tells heap c.args.at f.done f.becomes.now ag
    (subst (λ (n : ℕ). IsTree n t c.args.tree.anchor c.args.at f.done f.becomes.now)
    (sym c.each.invariant.onward.steady.count) f.becomes.tree)))

pub returns-in_err-insert-clause-onward : goal.returns-in_err-insert-clause-onward
returns-in_err-insert-clause-onward g c =
    onward_then _ _ _ _ _ _ _ _ c.each.invariant.onward c.in_err-insert.ensures.onward

pub each-preserved : goal.each-preserved
each-preserved g c = record {
  onward = onward_then _ _ _ _ _ _ _ _ c.each.invariant.onward c.in_ok-insert.ensures.onward;
  filled = λ heap halves places ag fit rising few body tree.
      let nodes : ℕ = g.V.View.count c.args.view.now in
      let t : State = stood heap (g.V.View.overlay c.each.view) in
      let u : State = stood heap (g.V.View.overlay c.insert.new.view) in
      let f = c.each.invariant.filled heap halves places (c.in_ok-insert.ensures.onward.agreed heap ag) fit rising few
      body tree in
      let e : Entry = record { key = c.in-Some.key.now; word = c.in-Some.word } in
      let n : NextHalf f.left e c.in-Some.after.now =
      next_half _ f.left e _ f.fit f.rest_is c.each-test.true c.in-Some.ensures.tells in
      let all : length halves ≡ length f.done + length f.left = filled_few _ _ _ _ _ _ halves _ _ f in
      let count : c.each.count ≡ length f.done = f.count_is in
      filled_more nodes _ t u c.args.tree.anchor c.args.at places halves _ c.each.count _ e _ c.in_ok-insert.field-0
      rising f n
      (subst (λ (m : ℕ). InsertTells m t u c.args.tree.anchor c.args.at f.done f.becomes.now e.key e.word
      (Ok c.in_ok-insert.field-0)) c.each.invariant.onward.steady.count
      (c.in_ok-insert.ensures.tells heap c.args.at f.done f.becomes.now ag
      (subst (λ (m : ℕ). IsTree m t c.args.tree.anchor c.args.at f.done f.becomes.now)
      (sym c.each.invariant.onward.steady.count) f.becomes.tree)))
      (mod-eq_of_lt (omega (arith, all, few, count)));
}

pub returns-clause-tells : goal.returns-clause-tells
returns-clause-tells g c heap halves places ag fit rising few body tree =
    filled_all _ _ _ _ _ _ halves _ _ (c.each.invariant.filled heap halves places ag fit rising few body tree)
    c.each-test.false
