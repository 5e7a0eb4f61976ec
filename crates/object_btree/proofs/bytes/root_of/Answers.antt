use Rattle.std.proofs.Common.{◌≡◌, ℕ, List, length, get_or, None, Some, [], ◌∷◌, sym, ap, ◌∙◌}
use Rattle.object_view.specs.Layout.{owner_at}
use Rattle.object_view.proofs.Layouts.{some_is}
use Rattle.object_view.proofs.Layouts.{owner_is}
use Rattle.object_btree.proofs.bytes.root_of.Goals as goal

pub returns-in-None : goal.returns-in-None
returns-in-None c root height lt h =
    let one : owner_at c.args.bytes.now ≡ Some (root, height ∷ []) =
    owner_is c.args.bytes.now root (height ∷ []) lt h in
    let two : owner_at c.args.bytes.now ≡ None = c.in-None.ensures in
    cc

pub returns-then-rest-ne1 : goal.returns-then-rest-ne1
returns-then-rest-ne1 c root height lt h =
    let one : owner_at c.args.bytes.now ≡ Some (root, height ∷ []) =
    owner_is c.args.bytes.now root (height ∷ []) lt h in
    let pair : ◌≡◌ {A = ℕ × List ℕ} (c.in-Some.root, c.in-Some.rest.now) (root, height ∷ []) =
    some_is _ _ (sym c.in-Some.ensures ∙ one) in
    absurd (c.if-rest-ne1.true (ap (λ (p : ℕ × List ℕ). length p.1) pair))

pub returns-else-rest-ne1 : goal.returns-else-rest-ne1
returns-else-rest-ne1 c root height lt h =
    let one : owner_at c.args.bytes.now ≡ Some (root, height ∷ []) =
    owner_is c.args.bytes.now root (height ∷ []) lt h in
    let pair : ◌≡◌ {A = ℕ × List ℕ} (c.in-Some.root, c.in-Some.rest.now) (root, height ∷ []) =
    some_is _ _ (sym c.in-Some.ensures ∙ one) in
    ap (λ (p : ℕ × List ℕ). Some (p.0, get_or p.1 0 0)) pair
