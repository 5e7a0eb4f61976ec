use Rattle.std.proofs.Common.{◌≡◌, ◌%◌, Bool, true, ℕ, sym, ap, subst, ◌∙◌}
use Rattle.a1_base.specs.declared.place.Addr.{Addr}
use Rattle.object_view.specs.Agreement.{stood, State}
use Rattle.object_view.specs.Layout.{entries, addr_of, node_bytes}
use Rattle.object_view.specs.Trees.{is_on}
use Rattle.object_btree.specs.Steps.{PairAt, JoinedAt}
use Rattle.object_view.proofs.Moving.{onward_then}
use Rattle.object_view.proofs.Views.{on_served, tells_from, tells_map}
use Rattle.object_btree.proofs.removal.join.Goals as goal

pub returns-in_err-left_bytes-clause-tells : goal.returns-in_err-left_bytes-clause-tells
returns-in_err-left_bytes-clause-tells g c h low high xs ys ag fl fh ef eb short few p =
    let R : Addr → Bool = is_on (g.V.View.count c.args.view.now) c.args.site.node in
    let u : State = stood h (g.V.View.overlay c.args.view.now) in
    let served : (x : Addr) → R x ≡ true → g.V.View.reaches c.args.view.now
    (x.region % g.V.View.count c.args.view.now) ≡ true =
    λ x on. on_served (g.V.View.reaches c.args.view.now) _ c.args.site.node x on c.requires.served in
    let ea : c.addr_of-a.result ≡ addr_of c.args.left = c.addr_of-a.ensures in
    let eb2 : c.addr_of-b.result ≡ addr_of c.args.right = c.addr_of-b.ensures in
    tells_from c.from_residual.result _ _ _ c.from_residual.ensures.1
    (c.in_err-left_bytes.ensures.tells h (node_bytes c.args.site.owner xs) (node_bytes c.args.site.owner ys) ag
    (served c.args.at p.above) p.above_at
    (served c.addr_of-a.result (ap R ea ∙ p.left_reached)) (ap u ea ∙ p.left_at)
    (served c.addr_of-b.result (ap R eb2 ∙ p.right_reached)) (ap u eb2 ∙ p.right_at))

pub returns-clause-onward : goal.returns-clause-onward
returns-clause-onward g c = onward_then _ _ _ _ _ _ _ _ c.in_ok-left_bytes.ensures.onward c.joined.ensures.onward

pub returns-clause-tells : goal.returns-clause-tells
returns-clause-tells g c h low high xs ys ag fl fh ef eb short few p =
    let R : Addr → Bool = is_on (g.V.View.count c.args.view.now) c.args.site.node in
    let u : State = stood h (g.V.View.overlay c.args.view.now) in
    let u1 : State = stood h (g.V.View.overlay c.look_two.new.view) in
    let t : State = stood h (g.V.View.overlay c.joined.new.view) in
    let served : (x : Addr) → R x ≡ true → g.V.View.reaches c.args.view.now
    (x.region % g.V.View.count c.args.view.now) ≡ true =
    λ x on. on_served (g.V.View.reaches c.args.view.now) _ c.args.site.node x on c.requires.served in
    let ea : c.addr_of-a.result ≡ addr_of c.args.left = c.addr_of-a.ensures in
    let eb2 : c.addr_of-b.result ≡ addr_of c.args.right = c.addr_of-b.ensures in
    let two = c.in_ok-left_bytes.ensures.tells h (node_bytes c.args.site.owner xs) (node_bytes c.args.site.owner ys)
    (c.joined.ensures.onward.agreed h ag) (served c.args.at p.above) p.above_at
    (served c.addr_of-a.result (ap R ea ∙ p.left_reached)) (ap u ea ∙ p.left_at)
    (served c.addr_of-b.result (ap R eb2 ∙ p.right_reached)) (ap u eb2 ∙ p.right_at) in
    let lb : c.in-Some.left_body.now ≡ entries xs = c.in-Some.ensures xs (c.as_slice.ensures ∙ two.0) in
    let rb : c.in-Some-node_of.right_body.now ≡ entries ys =
    c.in-Some-node_of.ensures ys (c.as_slice-2.ensures ∙ two.1) in
    let p1 : PairAt R u c.args.site.owner c.args.at c.addr_of-a.result (addr_of c.args.right) xs ys =
    subst (λ (x : Addr). PairAt R u c.args.site.owner c.args.at x (addr_of c.args.right) xs ys) (sym ea) p in
    let p2 : PairAt R u c.args.site.owner c.args.at c.addr_of-a.result c.addr_of-b.result xs ys =
    subst (λ (x : Addr). PairAt R u c.args.site.owner c.args.at c.addr_of-a.result x xs ys) (sym eb2) p1 in
    let p3 : PairAt (is_on (g.V.View.count c.look_two.new.view) c.args.site.node) u c.args.site.owner c.args.at
    c.addr_of-a.result c.addr_of-b.result xs ys =
    subst (λ (r : Addr → Bool). PairAt r u c.args.site.owner c.args.at c.addr_of-a.result c.addr_of-b.result xs ys)
    (sym (ap (λ (n : ℕ). is_on n c.args.site.node) c.in_ok-left_bytes.ensures.onward.steady.count)) p2 in
    let eu : u1 ≡ u = ap (stood h) c.in_ok-left_bytes.ensures.overlay in
    let p4 : PairAt (is_on (g.V.View.count c.look_two.new.view) c.args.site.node) u1 c.args.site.owner c.args.at
    c.addr_of-a.result c.addr_of-b.result xs ys =
    subst (λ (x : State). PairAt (is_on (g.V.View.count c.look_two.new.view) c.args.site.node) x c.args.site.owner
    c.args.at c.addr_of-a.result c.addr_of-b.result xs ys) (sym eu) p3 in
    tells_map c.joined.result _ _ (λ thin j.
    let j1 : JoinedAt u t c.args.site.owner c.args.at c.addr_of-a.result c.addr_of-b.result low c.args.key.now
    c.args.left c.args.right high xs ys thin =
    subst (λ (x : State). JoinedAt x t c.args.site.owner c.args.at c.addr_of-a.result c.addr_of-b.result low
    c.args.key.now c.args.left c.args.right high xs ys thin) eu j in
    let j2 : JoinedAt u t c.args.site.owner c.args.at (addr_of c.args.left) c.addr_of-b.result low c.args.key.now
    c.args.left c.args.right high xs ys thin =
    subst (λ (x : Addr). JoinedAt u t c.args.site.owner c.args.at x c.addr_of-b.result low c.args.key.now
    c.args.left c.args.right high xs ys thin) ea j1 in
    subst (λ (x : Addr). JoinedAt u t c.args.site.owner c.args.at (addr_of c.args.left) x low c.args.key.now
    c.args.left c.args.right high xs ys thin) eb2 j2)
    (c.joined.ensures.tells h low high xs ys ag fl fh ef eb short few lb rb p4)
