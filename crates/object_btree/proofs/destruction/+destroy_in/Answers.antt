use Rattle.std.proofs.Common.{◌≡◌, ◌≤◌, ◌<◌, ◌-◌, ◌+◌, ◌^◌, ◌%◌, Bool, true, ℕ, None, Some, Ok, Err, refl, sym, ap, ◌∙◌, arith, length}
use Rattle.a1_base.specs.declared.place.Addr.{Addr}
use Rattle.object_view.specs.Agreement.{stood, State}
use Rattle.object_view.specs.Layout.{addr_of, head_at}
use Rattle.object_view.specs.Parts.{with_bytes}
use Rattle.object_view.specs.Trees.{is_on}
use Rattle.object_view.proofs.Layouts.{none_left, none_more, some_is}
use Rattle.object_btree.specs.Remains.{LessBy}
use Rattle.object_view.proofs.Moving.{onward_then}
use Rattle.object_view.proofs.Views.{tells_from, on_served, some_not_none}
use Rattle.object_btree.proofs.Packs.{small}
use Rattle.object_btree.proofs.Freeing.{none_less, no_left, drop_step, DropStep, skip_tells, DropTells, drop_as, Found, found, Kept, stop_less, still_full, served_later, seek_err, Gone, all_gone, rest_left, go_less, there_distinct, under_distinct}
use Rattle.object_btree.proofs.destruction.+destroy_in.Goals as goal

pub returns-then-body-eq0-clause-tells : goal.returns-then-body-eq0-clause-tells
returns-then-body-eq0-clause-tells g t c h es ps ag fits eq left distinct =
    let z = c.if-body-eq0.true in
    let R : Addr → Bool = is_on (g.V.View.count c.args.view.now) c.args.site.node in
    let s : State = stood h (g.V.View.overlay c.args.view.now) in
    none_less R s c.args.site.owner c.args.levels c.args.limit es ps
    (λ w. no_left R s c.args.site.owner c.args.levels es ps (none_more c.args.body.now es eq (omega (arith, z))) left)
    left distinct

pub returns-in_default-clause-tells : goal.returns-in_default-clause-tells
returns-in_default-clause-tells g t c h es ps ag fits eq left distinct =
    let ne = c.if-body-eq0.false in
    none_left c.args.body.now es fits eq (omega (arith, ne)) c.in_default.ensures.tells

pub returns-in_err-bytes-clause-tells : goal.returns-in_err-bytes-clause-tells
returns-in_err-bytes-clause-tells g t c h es ps ag fits eq left distinct =
    let ne = c.if-body-eq0.false in
    let R : Addr → Bool = is_on (g.V.View.count c.args.view.now) c.args.site.node in
    let s : State = stood h (g.V.View.overlay c.args.view.now) in
    let lt : c.args.site.owner < 2 ^ 64 = omega arith in
    let d : DropStep R s c.args.site.owner c.args.levels (c.args.levels - 1) es ps c.in-Some.word c.in-Some.rest.now =
    drop_step R s c.args.site.owner c.args.levels es ps c.args.body.now c.in-Some.field-0-0.now c.in-Some.word
    c.in-Some.rest.now c.if-levels-eq0.false fits eq (omega (arith, ne)) c.in-Some.ensures.tells left in
    let at : c.addr_of-child.result ≡ addr_of c.in-Some.word = c.addr_of-child.ensures in
    let served : g.V.View.reaches c.args.view.now (c.addr_of-child.result.region % g.V.View.count c.args.view.now)
    ≡ true = on_served (g.V.View.reaches c.args.view.now) (g.V.View.count c.args.view.now) c.args.site.node
    c.addr_of-child.result (ap R at ∙ d.reached) c.requires.served in
    tells_from c.from_residual.result _ _ _ c.from_residual.ensures.1
    (seek_err {A = Bool} c.in_err-bytes.field-0.0 _ (λ x. Bool) (c.in_err-bytes.ensures.tells h ag served))

pub returns-in_default-2-clause-tells : goal.returns-in_default-2-clause-tells
returns-in_default-2-clause-tells g t c h es ps ag fits eq left distinct =
    let ne = c.if-body-eq0.false in
    let R : Addr → Bool = is_on (g.V.View.count c.args.view.now) c.args.site.node in
    let s : State = stood h (g.V.View.overlay c.args.view.now) in
    let lt : c.args.site.owner < 2 ^ 64 = omega arith in
    let d : DropStep R s c.args.site.owner c.args.levels (c.args.levels - 1) es ps c.in-Some.word c.in-Some.rest.now =
    drop_step R s c.args.site.owner c.args.levels es ps c.args.body.now c.in-Some.field-0-0.now c.in-Some.word
    c.in-Some.rest.now c.if-levels-eq0.false fits eq (omega (arith, ne)) c.in-Some.ensures.tells left in
    let at : c.addr_of-child.result ≡ addr_of c.in-Some.word = c.addr_of-child.ensures in
    let served : g.V.View.reaches c.args.view.now (c.addr_of-child.result.region % g.V.View.count c.args.view.now)
    ≡ true = on_served (g.V.View.reaches c.args.view.now) (g.V.View.count c.args.view.now) c.args.site.node
    c.addr_of-child.result (ap R at ∙ d.reached) c.requires.served in
    let R1 : Addr → Bool = is_on (g.V.View.count c.seek.new.view) c.args.site.node in
    let s1 : State = stood h (g.V.View.overlay c.seek.new.view) in
    let er : R1 ≡ R = ap (λ (n : ℕ). is_on n c.args.site.node) c.in_ok-bytes.ensures.onward.steady.count in
    let es1 : s1 ≡ s = ap (stood h) c.in_ok-bytes.ensures.overlay in
    let t1 : State = stood h (g.V.View.overlay c.destroy_in.new.view) in
    let none : s c.addr_of-child.result ≡ None =
    sym (rw c.in_default-2.is at (c.in_ok-bytes.ensures.tells h (c.destroy_in.ensures.onward.agreed h ag) served)) in
    skip_tells R s t1 c.args.site.owner c.args.levels (c.args.levels - 1) es ps c.in-Some.word c.in-Some.rest.now
    c.args.limit c.destroy_in.result d distinct lt
    (λ b rest some head. some_not_none (s (addr_of c.in-Some.word)) b some (ap s (sym at) ∙ none))
    (drop_as R R1 s s1 t1 c.args.site.owner c.args.levels c.in-Some.rest.now c.args.limit c.destroy_in.result er es1
    (λ xs qs. c.destroy_in.ensures.tells h xs qs ag))

pub returns-in_default-owned-clause-tells : goal.returns-in_default-owned-clause-tells
returns-in_default-owned-clause-tells g t c h es ps ag fits eq left distinct =
    let ne = c.if-body-eq0.false in
    let R : Addr → Bool = is_on (g.V.View.count c.args.view.now) c.args.site.node in
    let s : State = stood h (g.V.View.overlay c.args.view.now) in
    let lt : c.args.site.owner < 2 ^ 64 = omega arith in
    let d : DropStep R s c.args.site.owner c.args.levels (c.args.levels - 1) es ps c.in-Some.word c.in-Some.rest.now =
    drop_step R s c.args.site.owner c.args.levels es ps c.args.body.now c.in-Some.field-0-0.now c.in-Some.word
    c.in-Some.rest.now c.if-levels-eq0.false fits eq (omega (arith, ne)) c.in-Some.ensures.tells left in
    let at : c.addr_of-child.result ≡ addr_of c.in-Some.word = c.addr_of-child.ensures in
    let served : g.V.View.reaches c.args.view.now (c.addr_of-child.result.region % g.V.View.count c.args.view.now)
    ≡ true = on_served (g.V.View.reaches c.args.view.now) (g.V.View.count c.args.view.now) c.args.site.node
    c.addr_of-child.result (ap R at ∙ d.reached) c.requires.served in
    let R1 : Addr → Bool = is_on (g.V.View.count c.seek.new.view) c.args.site.node in
    let s1 : State = stood h (g.V.View.overlay c.seek.new.view) in
    let er : R1 ≡ R = ap (λ (n : ℕ). is_on n c.args.site.node) c.in_ok-bytes.ensures.onward.steady.count in
    let es1 : s1 ≡ s = ap (stood h) c.in_ok-bytes.ensures.overlay in
    let t1 : State = stood h (g.V.View.overlay c.destroy_in-in_default-owned.new.view) in
    let here : s c.addr_of-child.result ≡ Some c.in-Some-2.bytes =
    sym (rw c.in-Some-2.is at (c.in_ok-bytes.ensures.tells h
    (c.destroy_in-in_default-owned.ensures.onward.agreed h ag) served)) in
    skip_tells R s t1 c.args.site.owner c.args.levels (c.args.levels - 1) es ps c.in-Some.word c.in-Some.rest.now
    c.args.limit c.destroy_in-in_default-owned.result d distinct lt
    (λ b rest some head. c.in_default-owned.ensures rest
    (ap (head_at 3) (c.as_slice.ensures ∙ some_is _ _ (sym here ∙ ap s at ∙ some)) ∙ head))
    (drop_as R R1 s s1 t1 c.args.site.owner c.args.levels c.in-Some.rest.now c.args.limit
    c.destroy_in-in_default-owned.result er es1 (λ xs qs. c.destroy_in-in_default-owned.ensures.tells h xs qs ag))

pub returns-then-below-gt65000-clause-tells : goal.returns-then-below-gt65000-clause-tells
returns-then-below-gt65000-clause-tells g t c h es ps ag fits eq left distinct =
    let ne = c.if-body-eq0.false in
    let R : Addr → Bool = is_on (g.V.View.count c.args.view.now) c.args.site.node in
    let s : State = stood h (g.V.View.overlay c.args.view.now) in
    let lt : c.args.site.owner < 2 ^ 64 = omega arith in
    let d : DropStep R s c.args.site.owner c.args.levels (c.args.levels - 1) es ps c.in-Some.word c.in-Some.rest.now =
    drop_step R s c.args.site.owner c.args.levels es ps c.args.body.now c.in-Some.field-0-0.now c.in-Some.word
    c.in-Some.rest.now c.if-levels-eq0.false fits eq (omega (arith, ne)) c.in-Some.ensures.tells left in
    let at : c.addr_of-child.result ≡ addr_of c.in-Some.word = c.addr_of-child.ensures in
    let served : g.V.View.reaches c.args.view.now (c.addr_of-child.result.region % g.V.View.count c.args.view.now)
    ≡ true = on_served (g.V.View.reaches c.args.view.now) (g.V.View.count c.args.view.now) c.args.site.node
    c.addr_of-child.result (ap R at ∙ d.reached) c.requires.served in
    let here : s c.addr_of-child.result ≡ Some c.in-Some-2.bytes =
    sym (rw c.in-Some-2.is at (c.in_ok-bytes.ensures.tells h (ag) served)) in
    let f : Found R s c.args.site.owner (c.args.levels - 1) c.in-Some.word d.here c.in-Some-owned.below.now =
    found R s c.args.site.owner (c.args.levels - 1) c.in-Some.word d.here c.in-Some-2.bytes
    c.in-Some-owned.below.now lt (ap s (sym at) ∙ here)
    (ap (head_at 3) (sym c.as_slice.ensures) ∙ c.in-Some-owned.ensures) d.part in
    let k : Kept R s c.args.site.owner (c.args.levels - 1) c.in-Some.word d.here = f.kept in
    let few = small k.es c.in-Some-owned.below.now k.node.fits f.body_is k.node.few in
    let long = c.if-below-gt65000.true in
    absurd (omega (arith, few, long))

pub returns-in_err-freed-clause-tells : goal.returns-in_err-freed-clause-tells
returns-in_err-freed-clause-tells g t c h es ps ag fits eq left distinct =
    let ne = c.if-body-eq0.false in
    let R : Addr → Bool = is_on (g.V.View.count c.args.view.now) c.args.site.node in
    let s : State = stood h (g.V.View.overlay c.args.view.now) in
    let lt : c.args.site.owner < 2 ^ 64 = omega arith in
    let d : DropStep R s c.args.site.owner c.args.levels (c.args.levels - 1) es ps c.in-Some.word c.in-Some.rest.now =
    drop_step R s c.args.site.owner c.args.levels es ps c.args.body.now c.in-Some.field-0-0.now c.in-Some.word
    c.in-Some.rest.now c.if-levels-eq0.false fits eq (omega (arith, ne)) c.in-Some.ensures.tells left in
    let at : c.addr_of-child.result ≡ addr_of c.in-Some.word = c.addr_of-child.ensures in
    let served : g.V.View.reaches c.args.view.now (c.addr_of-child.result.region % g.V.View.count c.args.view.now)
    ≡ true = on_served (g.V.View.reaches c.args.view.now) (g.V.View.count c.args.view.now) c.args.site.node
    c.addr_of-child.result (ap R at ∙ d.reached) c.requires.served in
    let R1 : Addr → Bool = is_on (g.V.View.count c.seek.new.view) c.args.site.node in
    let s1 : State = stood h (g.V.View.overlay c.seek.new.view) in
    let er : R1 ≡ R = ap (λ (n : ℕ). is_on n c.args.site.node) c.in_ok-bytes.ensures.onward.steady.count in
    let es1 : s1 ≡ s = ap (stood h) c.in_ok-bytes.ensures.overlay in
    let here : s c.addr_of-child.result ≡ Some c.in-Some-2.bytes =
    sym (rw c.in-Some-2.is at (c.in_ok-bytes.ensures.tells h (c.in_err-freed.ensures.onward.agreed h ag) served)) in
    let f : Found R s c.args.site.owner (c.args.levels - 1) c.in-Some.word d.here c.in-Some-owned.below.now =
    found R s c.args.site.owner (c.args.levels - 1) c.in-Some.word d.here c.in-Some-2.bytes
    c.in-Some-owned.below.now lt (ap s (sym at) ∙ here)
    (ap (head_at 3) (sym c.as_slice.ensures) ∙ c.in-Some-owned.ensures) d.part in
    let k : Kept R s c.args.site.owner (c.args.levels - 1) c.in-Some.word d.here = f.kept in
    let t1 : State = stood h (g.V.View.overlay c.destroy_in-2.new.view) in
    let q : DropTells R s t1 c.args.site.owner (c.args.levels - 1) c.in-Some-owned.below.now c.args.limit
    (Err c.in_err-freed.field-0.0) =
    drop_as R R1 s s1 t1 c.args.site.owner (c.args.levels - 1) c.in-Some-owned.below.now c.args.limit
    (Err c.in_err-freed.field-0.0) er es1
    (λ xs qs. c.in_err-freed.ensures.tells h xs qs ag) in
    tells_from c.from_residual-in_err-freed.result _ _ _ c.from_residual-in_err-freed.ensures.1
    (q k.es k.under k.node.fits f.body_is k.left
    (under_distinct R s c.args.site.owner c.args.levels (c.args.levels - 1) es ps c.in-Some.word
    c.in-Some.rest.now d distinct k))

pub returns-then-freed-limit-clause-tells : goal.returns-then-freed-limit-clause-tells
returns-then-freed-limit-clause-tells g t c h es ps ag fits eq left distinct =
    let ne = c.if-body-eq0.false in
    let R : Addr → Bool = is_on (g.V.View.count c.args.view.now) c.args.site.node in
    let s : State = stood h (g.V.View.overlay c.args.view.now) in
    let lt : c.args.site.owner < 2 ^ 64 = omega arith in
    let d : DropStep R s c.args.site.owner c.args.levels (c.args.levels - 1) es ps c.in-Some.word c.in-Some.rest.now =
    drop_step R s c.args.site.owner c.args.levels es ps c.args.body.now c.in-Some.field-0-0.now c.in-Some.word
    c.in-Some.rest.now c.if-levels-eq0.false fits eq (omega (arith, ne)) c.in-Some.ensures.tells left in
    let at : c.addr_of-child.result ≡ addr_of c.in-Some.word = c.addr_of-child.ensures in
    let served : g.V.View.reaches c.args.view.now (c.addr_of-child.result.region % g.V.View.count c.args.view.now)
    ≡ true = on_served (g.V.View.reaches c.args.view.now) (g.V.View.count c.args.view.now) c.args.site.node
    c.addr_of-child.result (ap R at ∙ d.reached) c.requires.served in
    let R1 : Addr → Bool = is_on (g.V.View.count c.seek.new.view) c.args.site.node in
    let s1 : State = stood h (g.V.View.overlay c.seek.new.view) in
    let er : R1 ≡ R = ap (λ (n : ℕ). is_on n c.args.site.node) c.in_ok-bytes.ensures.onward.steady.count in
    let es1 : s1 ≡ s = ap (stood h) c.in_ok-bytes.ensures.overlay in
    let here : s c.addr_of-child.result ≡ Some c.in-Some-2.bytes =
    sym (rw c.in-Some-2.is at (c.in_ok-bytes.ensures.tells h (c.in_ok-freed.ensures.onward.agreed h (ag)) served)) in
    let f : Found R s c.args.site.owner (c.args.levels - 1) c.in-Some.word d.here c.in-Some-owned.below.now =
    found R s c.args.site.owner (c.args.levels - 1) c.in-Some.word d.here c.in-Some-2.bytes
    c.in-Some-owned.below.now lt (ap s (sym at) ∙ here)
    (ap (head_at 3) (sym c.as_slice.ensures) ∙ c.in-Some-owned.ensures) d.part in
    let k : Kept R s c.args.site.owner (c.args.levels - 1) c.in-Some.word d.here = f.kept in
    let t1 : State = stood h (g.V.View.overlay c.destroy_in-2.new.view) in
    let q : DropTells R s t1 c.args.site.owner (c.args.levels - 1) c.in-Some-owned.below.now c.args.limit
    (Ok c.in_ok-freed.freed) =
    drop_as R R1 s s1 t1 c.args.site.owner (c.args.levels - 1) c.in-Some-owned.below.now c.args.limit
    (Ok c.in_ok-freed.freed) er es1
    (λ xs qs. c.in_ok-freed.ensures.tells h xs qs (ag)) in
    let m : LessBy R s t1 c.args.site.owner (c.args.levels - 1) k.es k.under c.args.limit c.in_ok-freed.freed =
    q k.es k.under k.node.fits f.body_is k.left
    (under_distinct R s c.args.site.owner c.args.levels (c.args.levels - 1) es ps c.in-Some.word
    c.in-Some.rest.now d distinct k) in
    stop_less R s t1 c.args.site.owner c.args.levels (c.args.levels - 1) es ps c.in-Some.word c.in-Some.rest.now
    c.args.limit c.in_ok-freed.freed d k distinct c.if-freed-limit.true m

pub returns-in_err-free_at-clause-tells : goal.returns-in_err-free_at-clause-tells
returns-in_err-free_at-clause-tells g t c h es ps ag fits eq left distinct =
    let ne = c.if-body-eq0.false in
    let R : Addr → Bool = is_on (g.V.View.count c.args.view.now) c.args.site.node in
    let s : State = stood h (g.V.View.overlay c.args.view.now) in
    let lt : c.args.site.owner < 2 ^ 64 = omega arith in
    let d : DropStep R s c.args.site.owner c.args.levels (c.args.levels - 1) es ps c.in-Some.word c.in-Some.rest.now =
    drop_step R s c.args.site.owner c.args.levels es ps c.args.body.now c.in-Some.field-0-0.now c.in-Some.word
    c.in-Some.rest.now c.if-levels-eq0.false fits eq (omega (arith, ne)) c.in-Some.ensures.tells left in
    let at : c.addr_of-child.result ≡ addr_of c.in-Some.word = c.addr_of-child.ensures in
    let served : g.V.View.reaches c.args.view.now (c.addr_of-child.result.region % g.V.View.count c.args.view.now)
    ≡ true = on_served (g.V.View.reaches c.args.view.now) (g.V.View.count c.args.view.now) c.args.site.node
    c.addr_of-child.result (ap R at ∙ d.reached) c.requires.served in
    let R1 : Addr → Bool = is_on (g.V.View.count c.seek.new.view) c.args.site.node in
    let s1 : State = stood h (g.V.View.overlay c.seek.new.view) in
    let er : R1 ≡ R = ap (λ (n : ℕ). is_on n c.args.site.node) c.in_ok-bytes.ensures.onward.steady.count in
    let es1 : s1 ≡ s = ap (stood h) c.in_ok-bytes.ensures.overlay in
    let here : s c.addr_of-child.result ≡ Some c.in-Some-2.bytes =
    sym (rw c.in-Some-2.is at
    (c.in_ok-bytes.ensures.tells h
    (c.in_ok-freed.ensures.onward.agreed h (c.in_err-free_at.ensures.onward.agreed h ag)) served)) in
    let f : Found R s c.args.site.owner (c.args.levels - 1) c.in-Some.word d.here c.in-Some-owned.below.now =
    found R s c.args.site.owner (c.args.levels - 1) c.in-Some.word d.here c.in-Some-2.bytes
    c.in-Some-owned.below.now lt (ap s (sym at) ∙ here)
    (ap (head_at 3) (sym c.as_slice.ensures) ∙ c.in-Some-owned.ensures) d.part in
    let k : Kept R s c.args.site.owner (c.args.levels - 1) c.in-Some.word d.here = f.kept in
    let t1 : State = stood h (g.V.View.overlay c.destroy_in-2.new.view) in
    let q : DropTells R s t1 c.args.site.owner (c.args.levels - 1) c.in-Some-owned.below.now c.args.limit
    (Ok c.in_ok-freed.freed) =
    drop_as R R1 s s1 t1 c.args.site.owner (c.args.levels - 1) c.in-Some-owned.below.now c.args.limit
    (Ok c.in_ok-freed.freed) er es1
    (λ xs qs. c.in_ok-freed.ensures.tells h xs qs (c.in_err-free_at.ensures.onward.agreed h ag)) in
    let m : LessBy R s t1 c.args.site.owner (c.args.levels - 1) k.es k.under c.args.limit c.in_ok-freed.freed =
    q k.es k.under k.node.fits f.body_is k.left
    (under_distinct R s c.args.site.owner c.args.levels (c.args.levels - 1) es ps c.in-Some.word
    c.in-Some.rest.now d distinct k) in
    let full : t1 c.addr_of-child.result ≡ None → ⊥ = λ none.
    still_full R s t1 c.args.site.owner c.args.levels (c.args.levels - 1) es ps c.in-Some.word c.in-Some.rest.now
    c.args.limit c.in_ok-freed.freed d k distinct m (ap t1 (sym at) ∙ none) in
    let served1 : g.V.View.reaches c.destroy_in-2.new.view
    (c.addr_of-child.result.region % g.V.View.count c.destroy_in-2.new.view) ≡ true =
    served_later (g.V.View.reaches c.args.view.now) (g.V.View.reaches c.destroy_in-2.new.view)
    (g.V.View.count c.args.view.now) (g.V.View.count c.destroy_in-2.new.view) c.addr_of-child.result
    (c.in_ok-freed.ensures.onward.steady.reaches ∙ c.in_ok-bytes.ensures.onward.steady.reaches)
    (c.in_ok-freed.ensures.onward.steady.count ∙ c.in_ok-bytes.ensures.onward.steady.count) served in
    tells_from c.from_residual-in_err-free_at.result _ _ _ c.from_residual-in_err-free_at.ensures.1
    (c.in_err-free_at.ensures.tells h ag served1 full)

pub returns-in_err-more-clause-tells : goal.returns-in_err-more-clause-tells
returns-in_err-more-clause-tells g t c h es ps ag fits eq left distinct =
    let ne = c.if-body-eq0.false in
    let R : Addr → Bool = is_on (g.V.View.count c.args.view.now) c.args.site.node in
    let s : State = stood h (g.V.View.overlay c.args.view.now) in
    let lt : c.args.site.owner < 2 ^ 64 = omega arith in
    let d : DropStep R s c.args.site.owner c.args.levels (c.args.levels - 1) es ps c.in-Some.word c.in-Some.rest.now =
    drop_step R s c.args.site.owner c.args.levels es ps c.args.body.now c.in-Some.field-0-0.now c.in-Some.word
    c.in-Some.rest.now c.if-levels-eq0.false fits eq (omega (arith, ne)) c.in-Some.ensures.tells left in
    let at : c.addr_of-child.result ≡ addr_of c.in-Some.word = c.addr_of-child.ensures in
    let served : g.V.View.reaches c.args.view.now (c.addr_of-child.result.region % g.V.View.count c.args.view.now)
    ≡ true = on_served (g.V.View.reaches c.args.view.now) (g.V.View.count c.args.view.now) c.args.site.node
    c.addr_of-child.result (ap R at ∙ d.reached) c.requires.served in
    let R1 : Addr → Bool = is_on (g.V.View.count c.seek.new.view) c.args.site.node in
    let s1 : State = stood h (g.V.View.overlay c.seek.new.view) in
    let er : R1 ≡ R = ap (λ (n : ℕ). is_on n c.args.site.node) c.in_ok-bytes.ensures.onward.steady.count in
    let es1 : s1 ≡ s = ap (stood h) c.in_ok-bytes.ensures.overlay in
    let here : s c.addr_of-child.result ≡ Some c.in-Some-2.bytes =
    sym (rw c.in-Some-2.is at
    (c.in_ok-bytes.ensures.tells h
    (c.in_ok-freed.ensures.onward.agreed h
    (c.in_ok-free_at.ensures.onward.agreed h (c.in_err-more.ensures.onward.agreed h ag))) served)) in
    let f : Found R s c.args.site.owner (c.args.levels - 1) c.in-Some.word d.here c.in-Some-owned.below.now =
    found R s c.args.site.owner (c.args.levels - 1) c.in-Some.word d.here c.in-Some-2.bytes
    c.in-Some-owned.below.now lt (ap s (sym at) ∙ here)
    (ap (head_at 3) (sym c.as_slice.ensures) ∙ c.in-Some-owned.ensures) d.part in
    let k : Kept R s c.args.site.owner (c.args.levels - 1) c.in-Some.word d.here = f.kept in
    let t1 : State = stood h (g.V.View.overlay c.destroy_in-2.new.view) in
    let q : DropTells R s t1 c.args.site.owner (c.args.levels - 1) c.in-Some-owned.below.now c.args.limit
    (Ok c.in_ok-freed.freed) =
    drop_as R R1 s s1 t1 c.args.site.owner (c.args.levels - 1) c.in-Some-owned.below.now c.args.limit
    (Ok c.in_ok-freed.freed) er es1
    (λ xs qs. c.in_ok-freed.ensures.tells h xs qs
    (c.in_ok-free_at.ensures.onward.agreed h (c.in_err-more.ensures.onward.agreed h ag))) in
    let m : LessBy R s t1 c.args.site.owner (c.args.levels - 1) k.es k.under c.args.limit c.in_ok-freed.freed =
    q k.es k.under k.node.fits f.body_is k.left
    (under_distinct R s c.args.site.owner c.args.levels (c.args.levels - 1) es ps c.in-Some.word
    c.in-Some.rest.now d distinct k) in
    let full : t1 c.addr_of-child.result ≡ None → ⊥ = λ none.
    still_full R s t1 c.args.site.owner c.args.levels (c.args.levels - 1) es ps c.in-Some.word c.in-Some.rest.now
    c.args.limit c.in_ok-freed.freed d k distinct m (ap t1 (sym at) ∙ none) in
    let served1 : g.V.View.reaches c.destroy_in-2.new.view
    (c.addr_of-child.result.region % g.V.View.count c.destroy_in-2.new.view) ≡ true =
    served_later (g.V.View.reaches c.args.view.now) (g.V.View.reaches c.destroy_in-2.new.view)
    (g.V.View.count c.args.view.now) (g.V.View.count c.destroy_in-2.new.view) c.addr_of-child.result
    (c.in_ok-freed.ensures.onward.steady.reaches ∙ c.in_ok-bytes.ensures.onward.steady.reaches)
    (c.in_ok-freed.ensures.onward.steady.count ∙ c.in_ok-bytes.ensures.onward.steady.count) served in
    let u : State = stood h (g.V.View.overlay c.free_at.new.view) in
    let low : c.in_ok-freed.freed < c.args.limit =
    let few : c.in_ok-freed.freed ≤ c.args.limit = c.in_ok-freed.ensures.few in
    let not = c.if-freed-limit.false in omega (arith, few, not) in
    let put : u ≡ with_bytes c.addr_of-child.result None t1 =
    c.in_ok-free_at.ensures.tells h (c.in_err-more.ensures.onward.agreed h ag) served1 full in
    let gone : Gone s u (addr_of c.in-Some.word) k.under =
    all_gone R s t1 u c.args.site.owner (c.args.levels - 1) k.es (addr_of c.in-Some.word) k.under c.args.limit
    c.in_ok-freed.freed m low (put ∙ ap (λ (a : Addr). with_bytes a None t1) at) in
    let R2 : Addr → Bool = is_on (g.V.View.count c.free_at.new.view) c.args.site.node in
    let er2 : R2 ≡ R = ap (λ (n : ℕ). is_on n c.args.site.node) (c.in_ok-free_at.ensures.onward.steady.count
    ∙ c.in_ok-freed.ensures.onward.steady.count ∙ c.in_ok-bytes.ensures.onward.steady.count) in
    let t2 : State = stood h (g.V.View.overlay c.destroy_in-3.new.view) in
    let q2 : DropTells R u t2 c.args.site.owner c.args.levels c.in-Some.rest.now
    ((c.args.limit - c.in_ok-freed.freed) - 1) (Err c.in_err-more.field-0.0) =
    drop_as R R2 u u t2 c.args.site.owner c.args.levels c.in-Some.rest.now
    ((c.args.limit - c.in_ok-freed.freed) - 1) (Err c.in_err-more.field-0.0) er2 refl
    (λ xs qs. c.in_err-more.ensures.tells h xs qs ag) in
    let r = q2 d.more d.there d.fits d.spelled
    (rest_left R s u c.args.site.owner c.args.levels (c.args.levels - 1) es ps c.in-Some.word c.in-Some.rest.now
    d k distinct gone)
    (there_distinct R s c.args.site.owner c.args.levels (c.args.levels - 1) es ps c.in-Some.word
    c.in-Some.rest.now d distinct) in
    tells_from c.from_residual-in_err-more.result _ _ _ c.from_residual-in_err-more.ensures.1 r

pub returns-clause-tells : goal.returns-clause-tells
returns-clause-tells g t c h es ps ag fits eq left distinct =
    let ne = c.if-body-eq0.false in
    let R : Addr → Bool = is_on (g.V.View.count c.args.view.now) c.args.site.node in
    let s : State = stood h (g.V.View.overlay c.args.view.now) in
    let lt : c.args.site.owner < 2 ^ 64 = omega arith in
    let d : DropStep R s c.args.site.owner c.args.levels (c.args.levels - 1) es ps c.in-Some.word c.in-Some.rest.now =
    drop_step R s c.args.site.owner c.args.levels es ps c.args.body.now c.in-Some.field-0-0.now c.in-Some.word
    c.in-Some.rest.now c.if-levels-eq0.false fits eq (omega (arith, ne)) c.in-Some.ensures.tells left in
    let at : c.addr_of-child.result ≡ addr_of c.in-Some.word = c.addr_of-child.ensures in
    let served : g.V.View.reaches c.args.view.now (c.addr_of-child.result.region % g.V.View.count c.args.view.now)
    ≡ true = on_served (g.V.View.reaches c.args.view.now) (g.V.View.count c.args.view.now) c.args.site.node
    c.addr_of-child.result (ap R at ∙ d.reached) c.requires.served in
    let R1 : Addr → Bool = is_on (g.V.View.count c.seek.new.view) c.args.site.node in
    let s1 : State = stood h (g.V.View.overlay c.seek.new.view) in
    let er : R1 ≡ R = ap (λ (n : ℕ). is_on n c.args.site.node) c.in_ok-bytes.ensures.onward.steady.count in
    let es1 : s1 ≡ s = ap (stood h) c.in_ok-bytes.ensures.overlay in
    let here : s c.addr_of-child.result ≡ Some c.in-Some-2.bytes =
    sym (rw c.in-Some-2.is at
    (c.in_ok-bytes.ensures.tells h
    (c.in_ok-freed.ensures.onward.agreed h
    (c.in_ok-free_at.ensures.onward.agreed h (c.in_ok-more.ensures.onward.agreed h ag))) served)) in
    let f : Found R s c.args.site.owner (c.args.levels - 1) c.in-Some.word d.here c.in-Some-owned.below.now =
    found R s c.args.site.owner (c.args.levels - 1) c.in-Some.word d.here c.in-Some-2.bytes
    c.in-Some-owned.below.now lt (ap s (sym at) ∙ here)
    (ap (head_at 3) (sym c.as_slice.ensures) ∙ c.in-Some-owned.ensures) d.part in
    let k : Kept R s c.args.site.owner (c.args.levels - 1) c.in-Some.word d.here = f.kept in
    let t1 : State = stood h (g.V.View.overlay c.destroy_in-2.new.view) in
    let q : DropTells R s t1 c.args.site.owner (c.args.levels - 1) c.in-Some-owned.below.now c.args.limit
    (Ok c.in_ok-freed.freed) =
    drop_as R R1 s s1 t1 c.args.site.owner (c.args.levels - 1) c.in-Some-owned.below.now c.args.limit
    (Ok c.in_ok-freed.freed) er es1
    (λ xs qs. c.in_ok-freed.ensures.tells h xs qs
    (c.in_ok-free_at.ensures.onward.agreed h (c.in_ok-more.ensures.onward.agreed h ag))) in
    let m : LessBy R s t1 c.args.site.owner (c.args.levels - 1) k.es k.under c.args.limit c.in_ok-freed.freed =
    q k.es k.under k.node.fits f.body_is k.left
    (under_distinct R s c.args.site.owner c.args.levels (c.args.levels - 1) es ps c.in-Some.word
    c.in-Some.rest.now d distinct k) in
    let full : t1 c.addr_of-child.result ≡ None → ⊥ = λ none.
    still_full R s t1 c.args.site.owner c.args.levels (c.args.levels - 1) es ps c.in-Some.word c.in-Some.rest.now
    c.args.limit c.in_ok-freed.freed d k distinct m (ap t1 (sym at) ∙ none) in
    let served1 : g.V.View.reaches c.destroy_in-2.new.view
    (c.addr_of-child.result.region % g.V.View.count c.destroy_in-2.new.view) ≡ true =
    served_later (g.V.View.reaches c.args.view.now) (g.V.View.reaches c.destroy_in-2.new.view)
    (g.V.View.count c.args.view.now) (g.V.View.count c.destroy_in-2.new.view) c.addr_of-child.result
    (c.in_ok-freed.ensures.onward.steady.reaches ∙ c.in_ok-bytes.ensures.onward.steady.reaches)
    (c.in_ok-freed.ensures.onward.steady.count ∙ c.in_ok-bytes.ensures.onward.steady.count) served in
    let u : State = stood h (g.V.View.overlay c.free_at.new.view) in
    let low : c.in_ok-freed.freed < c.args.limit =
    let few : c.in_ok-freed.freed ≤ c.args.limit = c.in_ok-freed.ensures.few in
    let not = c.if-freed-limit.false in omega (arith, few, not) in
    let put : u ≡ with_bytes c.addr_of-child.result None t1 =
    c.in_ok-free_at.ensures.tells h (c.in_ok-more.ensures.onward.agreed h ag) served1 full in
    let gone : Gone s u (addr_of c.in-Some.word) k.under =
    all_gone R s t1 u c.args.site.owner (c.args.levels - 1) k.es (addr_of c.in-Some.word) k.under c.args.limit
    c.in_ok-freed.freed m low (put ∙ ap (λ (a : Addr). with_bytes a None t1) at) in
    let R2 : Addr → Bool = is_on (g.V.View.count c.free_at.new.view) c.args.site.node in
    let er2 : R2 ≡ R = ap (λ (n : ℕ). is_on n c.args.site.node) (c.in_ok-free_at.ensures.onward.steady.count
    ∙ c.in_ok-freed.ensures.onward.steady.count ∙ c.in_ok-bytes.ensures.onward.steady.count) in
    let t2 : State = stood h (g.V.View.overlay c.destroy_in-3.new.view) in
    let q2 : DropTells R u t2 c.args.site.owner c.args.levels c.in-Some.rest.now
    ((c.args.limit - c.in_ok-freed.freed) - 1) (Ok c.in_ok-more.more) =
    drop_as R R2 u u t2 c.args.site.owner c.args.levels c.in-Some.rest.now
    ((c.args.limit - c.in_ok-freed.freed) - 1) (Ok c.in_ok-more.more) er2 refl
    (λ xs qs. c.in_ok-more.ensures.tells h xs qs ag) in
    let r = q2 d.more d.there d.fits d.spelled
    (rest_left R s u c.args.site.owner c.args.levels (c.args.levels - 1) es ps c.in-Some.word c.in-Some.rest.now
    d k distinct gone)
    (there_distinct R s c.args.site.owner c.args.levels (c.args.levels - 1) es ps c.in-Some.word
    c.in-Some.rest.now d distinct) in
    go_less R s u t2 c.args.site.owner c.args.levels (c.args.levels - 1) es ps c.in-Some.word c.in-Some.rest.now
    c.args.limit c.in_ok-freed.freed c.in_ok-more.more d k distinct gone low
    (let n : length k.under ≡ length m.left + c.in_ok-freed.freed = m.count in
    let z : length m.left ≡ 0 = ap length (m.all low) in omega (arith, n, z)) r

pub returns-in_default-2-clause-onward : goal.returns-in_default-2-clause-onward
returns-in_default-2-clause-onward g t c = onward_then _ _ _ _ _ _ _ _
    c.in_ok-bytes.ensures.onward c.destroy_in.ensures.onward

pub returns-in_default-owned-clause-onward : goal.returns-in_default-owned-clause-onward
returns-in_default-owned-clause-onward g t c = onward_then _ _ _ _ _ _ _ _
    c.in_ok-bytes.ensures.onward c.destroy_in-in_default-owned.ensures.onward

pub returns-in_err-freed-clause-onward : goal.returns-in_err-freed-clause-onward
returns-in_err-freed-clause-onward g t c = onward_then _ _ _ _ _ _ _ _
    c.in_ok-bytes.ensures.onward c.in_err-freed.ensures.onward

pub returns-then-freed-limit-clause-onward : goal.returns-then-freed-limit-clause-onward
returns-then-freed-limit-clause-onward g t c = onward_then _ _ _ _ _ _ _ _
    c.in_ok-bytes.ensures.onward c.in_ok-freed.ensures.onward

pub returns-in_err-free_at-clause-onward : goal.returns-in_err-free_at-clause-onward
returns-in_err-free_at-clause-onward g t c = onward_then _ _ _ _ _ _ _ _
    (onward_then _ _ _ _ _ _ _ _
    c.in_ok-bytes.ensures.onward c.in_ok-freed.ensures.onward) c.in_err-free_at.ensures.onward

pub returns-in_err-more-clause-onward : goal.returns-in_err-more-clause-onward
returns-in_err-more-clause-onward g t c = onward_then _ _ _ _ _ _ _ _
    (onward_then _ _ _ _ _ _ _ _
    (onward_then _ _ _ _ _ _ _ _
    c.in_ok-bytes.ensures.onward c.in_ok-freed.ensures.onward) c.in_ok-free_at.ensures.onward)
    c.in_err-more.ensures.onward

pub returns-clause-onward : goal.returns-clause-onward
returns-clause-onward g t c = onward_then _ _ _ _ _ _ _ _
    (onward_then _ _ _ _ _ _ _ _
    (onward_then _ _ _ _ _ _ _ _
    c.in_ok-bytes.ensures.onward c.in_ok-freed.ensures.onward) c.in_ok-free_at.ensures.onward)
    c.in_ok-more.ensures.onward
