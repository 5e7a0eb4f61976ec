use Rattle.std.proofs.Common.{◌≡◌, ◌<◌, ◌^◌, ℕ, List, None, sym, ap, ◌∙◌, arith}
use Rattle.object_view.specs.Layout.{entries, head_at}
use Rattle.object_view.proofs.Layouts.{some_is, head_of_object}
use Rattle.object_btree.proofs.bytes.node_of.Goals as goal

pub returns-in-None : goal.returns-in-None
returns-in-None c es h =
    let lt : c.args.owner < 2 ^ 64 = omega arith in
    let one = head_of_object 3 c.args.owner (entries es) c.args.bytes.now lt h in
    let two : head_at 3 c.args.bytes.now ≡ None = c.in-None.ensures in
    cc

pub returns-then-word-owner : goal.returns-then-word-owner
returns-then-word-owner c es h =
    let lt : c.args.owner < 2 ^ 64 = omega arith in
    let one = head_of_object 3 c.args.owner (entries es) c.args.bytes.now lt h in
    let pair : ◌≡◌ {A = ℕ × List ℕ} (c.in-Some.word, c.in-Some.rest.now) (c.args.owner, entries es) =
    some_is _ _ (sym c.in-Some.ensures ∙ one) in
    c.if-word-owner.true (ap (λ (p : ℕ × List ℕ). p.0) pair)

pub returns-else-word-owner : goal.returns-else-word-owner
returns-else-word-owner c es h =
    let lt : c.args.owner < 2 ^ 64 = omega arith in
    let one = head_of_object 3 c.args.owner (entries es) c.args.bytes.now lt h in
    let pair : ◌≡◌ {A = ℕ × List ℕ} (c.in-Some.word, c.in-Some.rest.now) (c.args.owner, entries es) =
    some_is _ _ (sym c.in-Some.ensures ∙ one) in
    ap (λ (p : ℕ × List ℕ). p.1) pair
