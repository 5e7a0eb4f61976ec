use Rattle.std.proofs.Common.{◌≡◌, ◌++◌, ℕ, List, None, Some, Option, [], ◌∷◌, sym, ap, ◌∙◌}
use Rattle.std.specs.Int.{w64, to_be_bytes}
use Rattle.object_view.specs.Layout.{head_at}
use Rattle.object_view.proofs.Layouts.{some_is, head_of_object}
use Rattle.object_btree.proofs.bytes.anchor_of.Goals as goal

pub returns-in-None : goal.returns-in-None
returns-in-None c owner root height lt lt2 h =
    let one = head_of_object 2 owner (to_be_bytes w64 root ++ height ∷ []) c.args.bytes.now lt h in
    let two : head_at 2 c.args.bytes.now ≡ None = c.in-None.ensures in
    cc

pub returns-in-None-root_of : goal.returns-in-None-root_of
returns-in-None-root_of c owner root height lt lt2 h =
    let one = head_of_object 2 owner (to_be_bytes w64 root ++ height ∷ []) c.args.bytes.now lt h in
    let pair : ◌≡◌ {A = ℕ × List ℕ} (c.in-Some.owner, c.in-Some.rest.now) (owner, to_be_bytes w64 root ++ height ∷ []) =
    some_is _ _ (sym c.in-Some.ensures ∙ one) in
    let n : ◌≡◌ {A = Option (ℕ × ℕ)} None (Some (root, height)) =
    c.in-None-root_of.ensures root height lt2 (ap (λ (p : ℕ × List ℕ). p.1) pair) in
    cc

pub returns-in-Some-root_of : goal.returns-in-Some-root_of
returns-in-Some-root_of c owner root height lt lt2 h =
    let one = head_of_object 2 owner (to_be_bytes w64 root ++ height ∷ []) c.args.bytes.now lt h in
    let pair : ◌≡◌ {A = ℕ × List ℕ} (c.in-Some.owner, c.in-Some.rest.now) (owner, to_be_bytes w64 root ++ height ∷ []) =
    some_is _ _ (sym c.in-Some.ensures ∙ one) in
    let n : ◌≡◌ {A = ℕ × ℕ} (c.in-Some-root_of.root, c.in-Some-root_of.height) (root, height) =
    some_is _ _ (c.in-Some-root_of.ensures root height lt2 (ap (λ (p : ℕ × List ℕ). p.1) pair)) in
    ap (λ (p : ℕ × ℕ). Some (c.in-Some.owner, p.0, p.1)) n ∙ ap (λ (o : ℕ × List ℕ). Some (o.0, root, height)) pair
