use Rattle.std.proofs.Common.{◌≡◌, ◌<◌, ◌-◌, Bool, List, ℕ, [], Some, refl, sym, ap, subst, ◌∙◌, arith, length}
use Rattle.std.specs.Prelude.{map}
use Rattle.std.specs.List.{AllByRecursion}
use Rattle.std.specs.declared.cmp.Ordering.TheVariants.{Less}
use Rattle.a1_base.specs.declared.place.Addr.{Addr}
use Rattle.object_view.specs.Agreement.{stood, State}
use Rattle.object_view.specs.Layout.{Entry, IsEntry, entries, addr_of, node_bytes}
use Rattle.object_view.specs.Keys.{compare}
use Rattle.object_view.specs.Parts.{ReadsOnly}
use Rattle.object_view.specs.Trees.{Item, Node, spell, contents, is_on}
use Rattle.object_btree.specs.Intervals.{between, gathered}
use Rattle.object_btree.specs.Levels.{Ahead, Visits}
use Rattle.object_view.proofs.Layouts.{some_is, none_left, none_more}
use Rattle.object_view.proofs.Moving.{onward_then}
use Rattle.object_view.proofs.Views.{tells_from, look_err, on_served}
use Rattle.object_btree.proofs.Packs.{small}
use Rattle.object_btree.proofs.Intervals.{less_of, gather_full}
use Rattle.object_btree.proofs.RangeSteps.{map_none, LeafItems, leaf_items, ChildStep, child_step, stand_as, both_gathered, tells_to, none_low, wanted}
use Rattle.object_view.proofs.Reading.{reads_weaker, reads_then}
use Rattle.object_btree.proofs.interval.+range_in.Goals as goal

pub returns-then-height-eq0-clause-tells : goal.returns-then-height-eq0-clause-tells
returns-then-height-eq0-clause-tells g t c h xs lo hi ag w st fits eq =
    let l : LeafItems c.args.from.now c.args.to.now c.args.height xs lo hi =
    leaf_items c.args.from.now c.args.to.now c.args.height xs lo hi c.if-height-eq0.true w in
    tells_to _ c.pairs_in.result _ _ _ (ap (gathered c.args.limit c.args.out.items) (sym l.same))
    (c.pairs_in.ensures l.es lo hi (subst (λ (x : List Entry). AllByRecursion IsEntry x) l.spelled fits)
    (eq ∙ ap entries l.spelled) l.ways)

pub returns-then-body-eq0-clause-tells : goal.returns-then-body-eq0-clause-tells
returns-then-body-eq0-clause-tells g t c h xs lo hi ag w st fits eq =
    let z = c.if-body-eq0.true in
    let none : xs ≡ [] = map_none (spell c.args.height) xs
    (none_more c.args.body.now (map (spell c.args.height) xs) eq (omega (arith, z))) in
    sym (ap (λ (x : List (Item c.args.height)). gathered c.args.limit c.args.out.items
    (between c.args.from.now c.args.to.now (contents c.args.height x))) none)

pub returns-in_default-clause-tells : goal.returns-in_default-clause-tells
returns-in_default-clause-tells g t c h xs lo hi ag w st fits eq =
    let ne = c.if-body-eq0.false in
    none_left c.args.body.now (map (spell c.args.height) xs) fits eq (omega (arith, ne)) c.in_default.ensures.tells

pub returns-then-len-limit-clause-tells : goal.returns-then-len-limit-clause-tells
returns-then-len-limit-clause-tells g t c h xs lo hi ag w st fits eq =
    let l = c.if-len-limit.true in
    sym (gather_full c.args.limit c.args.out.items (between c.args.from.now c.args.to.now (contents c.args.height xs))
    (omega (arith, l, c.len.ensures, c.args.out.ok)))

pub returns-then-not-is_below-clause-tells : goal.returns-then-not-is_below-clause-tells
returns-then-not-is_below-clause-tells g t c h xs lo hi ag w st fits eq =
    let ne = c.if-body-eq0.false in
    let R : Addr → Bool = is_on (g.V.View.count c.args.view.now) c.args.site.node in
    let s : State = stood h (g.V.View.overlay c.args.view.now) in
    let k : ChildStep R s c.args.site.owner c.args.height (c.args.height - 1) c.args.from.now c.args.to.now xs
    c.in-Some.key.now c.in-Some.word c.in-Some.rest.now hi =
    child_step R s c.args.site.owner c.args.height c.args.from.now c.args.to.now xs lo hi c.args.body.now
    c.in-Some.key.now c.in-Some.word c.in-Some.rest.now c.if-height-eq0.false w st fits eq (omega (arith, ne))
    c.in-Some.ensures.tells in
    sym (ap (gathered c.args.limit c.args.out.items) (k.high (sym c.is_below.ensures ∙ c.if-not-is_below.true)))

pub returns-then-begins_upto-clause-tells : goal.returns-then-begins_upto-clause-tells
returns-then-begins_upto-clause-tells g t c h xs lo hi ag w st fits eq =
    let ne = c.if-body-eq0.false in
    let R : Addr → Bool = is_on (g.V.View.count c.args.view.now) c.args.site.node in
    let s : State = stood h (g.V.View.overlay c.args.view.now) in
    let k : ChildStep R s c.args.site.owner c.args.height (c.args.height - 1) c.args.from.now c.args.to.now xs
    c.in-Some.key.now c.in-Some.word c.in-Some.rest.now hi =
    child_step R s c.args.site.owner c.args.height c.args.from.now c.args.to.now xs lo hi c.args.body.now
    c.in-Some.key.now c.in-Some.word c.in-Some.rest.now c.if-height-eq0.false w st fits eq (omega (arith, ne))
    c.in-Some.ensures.tells in
    let low = k.low (c.begins_upto.ensures.begins (map (spell c.args.height) k.rest) k.rest_fits k.rest_is
    c.if-begins_upto.true) in
    tells_to _ c.range_in.result _ _ _ (ap (gathered c.args.limit c.args.out.items) (sym low))
    (c.range_in.ensures.tells h k.rest k.mid hi ag k.rest_ways k.rest_stand k.rest_fits k.rest_is)

pub returns-then-begins_upto-clause-reads : goal.returns-then-begins_upto-clause-reads
returns-then-begins_upto-clause-reads g t c h xs lo hi ag w st fits eq =
    let ne = c.if-body-eq0.false in
    let R : Addr → Bool = is_on (g.V.View.count c.args.view.now) c.args.site.node in
    let s : State = stood h (g.V.View.overlay c.args.view.now) in
    let k : ChildStep R s c.args.site.owner c.args.height (c.args.height - 1) c.args.from.now c.args.to.now xs
    c.in-Some.key.now c.in-Some.word c.in-Some.rest.now hi =
    child_step R s c.args.site.owner c.args.height c.args.from.now c.args.to.now xs lo hi c.args.body.now
    c.in-Some.key.now c.in-Some.word c.in-Some.rest.now c.if-height-eq0.false w st fits eq (omega (arith, ne))
    c.in-Some.ensures.tells in
    let low = k.low (c.begins_upto.ensures.begins (map (spell c.args.height) k.rest) k.rest_fits k.rest_is
    c.if-begins_upto.true) in
    let L : ℕ = c.args.limit - length c.args.out.items in
    let none = none_low (between c.args.from.now c.args.to.now (contents (c.args.height - 1) k.child))
    (between c.args.from.now c.args.to.now (contents c.args.height k.rest))
    (between c.args.from.now c.args.to.now (contents c.args.height xs)) k.both low in
    reads_weaker (λ a. Visits c.args.height c.args.from.now c.args.to.now L k.rest a)
    (λ a. Visits c.args.height c.args.from.now c.args.to.now L xs a) (g.V.View.trace c.args.view.now)
    (g.V.View.trace c.range_in.new.view) (λ a v. k.visit_rest L L a (omega (arith, none)) v)
    (c.range_in.ensures.reads h k.rest k.mid hi ag k.rest_ways k.rest_stand k.rest_fits k.rest_is)

pub returns-in_err-bytes-clause-tells : goal.returns-in_err-bytes-clause-tells
returns-in_err-bytes-clause-tells g t c h xs lo hi ag w st fits eq =
    let ne = c.if-body-eq0.false in
    let R : Addr → Bool = is_on (g.V.View.count c.args.view.now) c.args.site.node in
    let s : State = stood h (g.V.View.overlay c.args.view.now) in
    let k : ChildStep R s c.args.site.owner c.args.height (c.args.height - 1) c.args.from.now c.args.to.now xs
    c.in-Some.key.now c.in-Some.word c.in-Some.rest.now hi =
    child_step R s c.args.site.owner c.args.height c.args.from.now c.args.to.now xs lo hi c.args.body.now
    c.in-Some.key.now c.in-Some.word c.in-Some.rest.now c.if-height-eq0.false w st fits eq (omega (arith, ne))
    c.in-Some.ensures.tells in
    let n : Node R s c.args.site.owner 16 (addr_of c.in-Some.word) (map (spell (c.args.height - 1)) k.child) =
    k.child_node in
    let at : c.addr_of-child.result ≡ addr_of c.in-Some.word = c.addr_of-child.ensures in
    let there : s c.addr_of-child.result ≡ Some (node_bytes c.args.site.owner
    (map (spell (c.args.height - 1)) k.child)) = ap s at ∙ n.bytes in
    tells_from c.from_residual.result _ _ _ c.from_residual.ensures.1
    (look_err {A = Bool} c.addr_of-child.result c.in_err-bytes.field-0.0 _ _ _ (λ x. Bool)
    (c.in_err-bytes.ensures.tells h ag)
    (on_served (g.V.View.reaches c.args.view.now) (g.V.View.count c.args.view.now) c.args.site.node
    c.addr_of-child.result (ap R at ∙ n.reached) c.requires.served) there)

pub returns-in_err-bytes-clause-reads : goal.returns-in_err-bytes-clause-reads
returns-in_err-bytes-clause-reads g t c h xs lo hi ag w st fits eq =
    let ne = c.if-body-eq0.false in
    let R : Addr → Bool = is_on (g.V.View.count c.args.view.now) c.args.site.node in
    let s : State = stood h (g.V.View.overlay c.args.view.now) in
    let k : ChildStep R s c.args.site.owner c.args.height (c.args.height - 1) c.args.from.now c.args.to.now xs
    c.in-Some.key.now c.in-Some.word c.in-Some.rest.now hi =
    child_step R s c.args.site.owner c.args.height c.args.from.now c.args.to.now xs lo hi c.args.body.now
    c.in-Some.key.now c.in-Some.word c.in-Some.rest.now c.if-height-eq0.false w st fits eq (omega (arith, ne))
    c.in-Some.ensures.tells in
    let at0 : c.addr_of-child.result ≡ addr_of c.in-Some.word = c.addr_of-child.ensures in
    let L : ℕ = c.args.limit - length c.args.out.items in
    let more = c.if-len-limit.false in
    let pos : 0 < L = omega (arith, more, c.len.ensures, c.args.out.ok) in
    let less : compare c.in-Some.key.now c.args.to.now ≡ Less =
    less_of _ (sym c.is_below.ensures ∙ c.if-not-is_below.false) in
    let ahead : Ahead c.args.from.now (map (spell c.args.height) k.rest) =
    c.begins_upto.ensures.ahead (map (spell c.args.height) k.rest) k.rest_fits k.rest_is c.if-begins_upto.false in
    let V : Addr → Type 0 = λ a. Visits c.args.height c.args.from.now c.args.to.now L xs a in
    let first : ReadsOnly V (g.V.View.trace c.args.view.now) (g.V.View.trace c.look.new.view) =
    reads_weaker (λ a. a ≡ c.addr_of-child.result) V (g.V.View.trace c.args.view.now)
    (g.V.View.trace c.look.new.view) (λ a q. k.visit_here L a (q ∙ at0) pos less ahead) c.look.ensures.reads in
    first

pub returns-in_default-node_of-clause-tells : goal.returns-in_default-node_of-clause-tells
returns-in_default-node_of-clause-tells g t c h xs lo hi ag w st fits eq =
    let ne = c.if-body-eq0.false in
    let R : Addr → Bool = is_on (g.V.View.count c.args.view.now) c.args.site.node in
    let s : State = stood h (g.V.View.overlay c.args.view.now) in
    let k : ChildStep R s c.args.site.owner c.args.height (c.args.height - 1) c.args.from.now c.args.to.now xs
    c.in-Some.key.now c.in-Some.word c.in-Some.rest.now hi =
    child_step R s c.args.site.owner c.args.height c.args.from.now c.args.to.now xs lo hi c.args.body.now
    c.in-Some.key.now c.in-Some.word c.in-Some.rest.now c.if-height-eq0.false w st fits eq (omega (arith, ne))
    c.in-Some.ensures.tells in
    let n : Node R s c.args.site.owner 16 (addr_of c.in-Some.word) (map (spell (c.args.height - 1)) k.child) =
    k.child_node in
    let at : c.addr_of-child.result ≡ addr_of c.in-Some.word = c.addr_of-child.ensures in
    let there : s c.addr_of-child.result ≡ Some (node_bytes c.args.site.owner
    (map (spell (c.args.height - 1)) k.child)) = ap s at ∙ n.bytes in
    let same : c.as_slice.result.now ≡ node_bytes c.args.site.owner (map (spell (c.args.height - 1)) k.child) =
    c.as_slice.ensures ∙ some_is _ _ (sym ((c.in_ok-bytes.ensures.tells h (ag)).1) ∙ there) in
    c.in_default-node_of.ensures (map (spell (c.args.height - 1)) k.child) same

pub returns-in_default-node_of-clause-reads : goal.returns-in_default-node_of-clause-reads
returns-in_default-node_of-clause-reads g t c h xs lo hi ag w st fits eq =
    let ne = c.if-body-eq0.false in
    let R : Addr → Bool = is_on (g.V.View.count c.args.view.now) c.args.site.node in
    let s : State = stood h (g.V.View.overlay c.args.view.now) in
    let k : ChildStep R s c.args.site.owner c.args.height (c.args.height - 1) c.args.from.now c.args.to.now xs
    c.in-Some.key.now c.in-Some.word c.in-Some.rest.now hi =
    child_step R s c.args.site.owner c.args.height c.args.from.now c.args.to.now xs lo hi c.args.body.now
    c.in-Some.key.now c.in-Some.word c.in-Some.rest.now c.if-height-eq0.false w st fits eq (omega (arith, ne))
    c.in-Some.ensures.tells in
    let at0 : c.addr_of-child.result ≡ addr_of c.in-Some.word = c.addr_of-child.ensures in
    let L : ℕ = c.args.limit - length c.args.out.items in
    let more = c.if-len-limit.false in
    let pos : 0 < L = omega (arith, more, c.len.ensures, c.args.out.ok) in
    let less : compare c.in-Some.key.now c.args.to.now ≡ Less =
    less_of _ (sym c.is_below.ensures ∙ c.if-not-is_below.false) in
    let ahead : Ahead c.args.from.now (map (spell c.args.height) k.rest) =
    c.begins_upto.ensures.ahead (map (spell c.args.height) k.rest) k.rest_fits k.rest_is c.if-begins_upto.false in
    let V : Addr → Type 0 = λ a. Visits c.args.height c.args.from.now c.args.to.now L xs a in
    let first : ReadsOnly V (g.V.View.trace c.args.view.now) (g.V.View.trace c.look.new.view) =
    reads_weaker (λ a. a ≡ c.addr_of-child.result) V (g.V.View.trace c.args.view.now)
    (g.V.View.trace c.look.new.view) (λ a q. k.visit_here L a (q ∙ at0) pos less ahead) c.look.ensures.reads in
    first

pub returns-then-below-gt65000-clause-tells : goal.returns-then-below-gt65000-clause-tells
returns-then-below-gt65000-clause-tells g t c h xs lo hi ag w st fits eq =
    let ne = c.if-body-eq0.false in
    let R : Addr → Bool = is_on (g.V.View.count c.args.view.now) c.args.site.node in
    let s : State = stood h (g.V.View.overlay c.args.view.now) in
    let k : ChildStep R s c.args.site.owner c.args.height (c.args.height - 1) c.args.from.now c.args.to.now xs
    c.in-Some.key.now c.in-Some.word c.in-Some.rest.now hi =
    child_step R s c.args.site.owner c.args.height c.args.from.now c.args.to.now xs lo hi c.args.body.now
    c.in-Some.key.now c.in-Some.word c.in-Some.rest.now c.if-height-eq0.false w st fits eq (omega (arith, ne))
    c.in-Some.ensures.tells in
    let n : Node R s c.args.site.owner 16 (addr_of c.in-Some.word) (map (spell (c.args.height - 1)) k.child) =
    k.child_node in
    let at : c.addr_of-child.result ≡ addr_of c.in-Some.word = c.addr_of-child.ensures in
    let there : s c.addr_of-child.result ≡ Some (node_bytes c.args.site.owner
    (map (spell (c.args.height - 1)) k.child)) = ap s at ∙ n.bytes in
    let same : c.as_slice.result.now ≡ node_bytes c.args.site.owner (map (spell (c.args.height - 1)) k.child) =
    c.as_slice.ensures ∙ some_is _ _ (sym ((c.in_ok-bytes.ensures.tells h (ag)).1) ∙ there) in
    let b : c.in-Some-node_of.below.now ≡ entries (map (spell (c.args.height - 1)) k.child) =
    c.in-Some-node_of.ensures (map (spell (c.args.height - 1)) k.child) same in
    let few = small (map (spell (c.args.height - 1)) k.child) c.in-Some-node_of.below.now n.fits b n.few in
    let long = c.if-below-gt65000.true in
    absurd (omega (arith, few, long))

pub returns-then-below-gt65000-clause-reads : goal.returns-then-below-gt65000-clause-reads
returns-then-below-gt65000-clause-reads g t c h xs lo hi ag w st fits eq =
    let ne = c.if-body-eq0.false in
    let R : Addr → Bool = is_on (g.V.View.count c.args.view.now) c.args.site.node in
    let s : State = stood h (g.V.View.overlay c.args.view.now) in
    let k : ChildStep R s c.args.site.owner c.args.height (c.args.height - 1) c.args.from.now c.args.to.now xs
    c.in-Some.key.now c.in-Some.word c.in-Some.rest.now hi =
    child_step R s c.args.site.owner c.args.height c.args.from.now c.args.to.now xs lo hi c.args.body.now
    c.in-Some.key.now c.in-Some.word c.in-Some.rest.now c.if-height-eq0.false w st fits eq (omega (arith, ne))
    c.in-Some.ensures.tells in
    let at0 : c.addr_of-child.result ≡ addr_of c.in-Some.word = c.addr_of-child.ensures in
    let L : ℕ = c.args.limit - length c.args.out.items in
    let more = c.if-len-limit.false in
    let pos : 0 < L = omega (arith, more, c.len.ensures, c.args.out.ok) in
    let less : compare c.in-Some.key.now c.args.to.now ≡ Less =
    less_of _ (sym c.is_below.ensures ∙ c.if-not-is_below.false) in
    let ahead : Ahead c.args.from.now (map (spell c.args.height) k.rest) =
    c.begins_upto.ensures.ahead (map (spell c.args.height) k.rest) k.rest_fits k.rest_is c.if-begins_upto.false in
    let V : Addr → Type 0 = λ a. Visits c.args.height c.args.from.now c.args.to.now L xs a in
    let first : ReadsOnly V (g.V.View.trace c.args.view.now) (g.V.View.trace c.look.new.view) =
    reads_weaker (λ a. a ≡ c.addr_of-child.result) V (g.V.View.trace c.args.view.now)
    (g.V.View.trace c.look.new.view) (λ a q. k.visit_here L a (q ∙ at0) pos less ahead) c.look.ensures.reads in
    first

pub returns-in_err-out-clause-tells : goal.returns-in_err-out-clause-tells
returns-in_err-out-clause-tells g t c h xs lo hi ag w st fits eq =
    let ne = c.if-body-eq0.false in
    let R : Addr → Bool = is_on (g.V.View.count c.args.view.now) c.args.site.node in
    let s : State = stood h (g.V.View.overlay c.args.view.now) in
    let k : ChildStep R s c.args.site.owner c.args.height (c.args.height - 1) c.args.from.now c.args.to.now xs
    c.in-Some.key.now c.in-Some.word c.in-Some.rest.now hi =
    child_step R s c.args.site.owner c.args.height c.args.from.now c.args.to.now xs lo hi c.args.body.now
    c.in-Some.key.now c.in-Some.word c.in-Some.rest.now c.if-height-eq0.false w st fits eq (omega (arith, ne))
    c.in-Some.ensures.tells in
    let n : Node R s c.args.site.owner 16 (addr_of c.in-Some.word) (map (spell (c.args.height - 1)) k.child) =
    k.child_node in
    let at : c.addr_of-child.result ≡ addr_of c.in-Some.word = c.addr_of-child.ensures in
    let there : s c.addr_of-child.result ≡ Some (node_bytes c.args.site.owner
    (map (spell (c.args.height - 1)) k.child)) = ap s at ∙ n.bytes in
    let same : c.as_slice.result.now ≡ node_bytes c.args.site.owner (map (spell (c.args.height - 1)) k.child) =
    c.as_slice.ensures ∙ some_is _ _ (sym ((c.in_ok-bytes.ensures.tells h (c.in_err-out.ensures.onward.agreed h ag)).1)
    ∙ there) in
    let b : c.in-Some-node_of.below.now ≡ entries (map (spell (c.args.height - 1)) k.child) =
    c.in-Some-node_of.ensures (map (spell (c.args.height - 1)) k.child) same in
    let st1 = stand_as R (is_on (g.V.View.count c.look.new.view) c.args.site.node) s
    (stood h (g.V.View.overlay c.look.new.view)) c.args.site.owner (c.args.height - 1) k.child
    (ap (λ (x : ℕ). is_on x c.args.site.node) c.in_ok-bytes.ensures.onward.steady.count)
    (ap (stood h) c.in_ok-bytes.ensures.overlay) k.child_stand in
    tells_from c.from_residual-in_err-out.result _ _ _ c.from_residual-in_err-out.ensures.1
    (c.in_err-out.ensures.tells h k.child k.child_lo k.child_hi ag k.child_ways st1 n.fits b)

pub returns-in_err-out-clause-reads : goal.returns-in_err-out-clause-reads
returns-in_err-out-clause-reads g t c h xs lo hi ag w st fits eq =
    let ne = c.if-body-eq0.false in
    let R : Addr → Bool = is_on (g.V.View.count c.args.view.now) c.args.site.node in
    let s : State = stood h (g.V.View.overlay c.args.view.now) in
    let k : ChildStep R s c.args.site.owner c.args.height (c.args.height - 1) c.args.from.now c.args.to.now xs
    c.in-Some.key.now c.in-Some.word c.in-Some.rest.now hi =
    child_step R s c.args.site.owner c.args.height c.args.from.now c.args.to.now xs lo hi c.args.body.now
    c.in-Some.key.now c.in-Some.word c.in-Some.rest.now c.if-height-eq0.false w st fits eq (omega (arith, ne))
    c.in-Some.ensures.tells in
    let n : Node R s c.args.site.owner 16 (addr_of c.in-Some.word) (map (spell (c.args.height - 1)) k.child) =
    k.child_node in
    let at : c.addr_of-child.result ≡ addr_of c.in-Some.word = c.addr_of-child.ensures in
    let there : s c.addr_of-child.result ≡ Some (node_bytes c.args.site.owner
    (map (spell (c.args.height - 1)) k.child)) = ap s at ∙ n.bytes in
    let same : c.as_slice.result.now ≡ node_bytes c.args.site.owner (map (spell (c.args.height - 1)) k.child) =
    c.as_slice.ensures ∙ some_is _ _ (sym ((c.in_ok-bytes.ensures.tells h (c.in_err-out.ensures.onward.agreed h ag)).1)
    ∙ there) in
    let b : c.in-Some-node_of.below.now ≡ entries (map (spell (c.args.height - 1)) k.child) =
    c.in-Some-node_of.ensures (map (spell (c.args.height - 1)) k.child) same in
    let st1 = stand_as R (is_on (g.V.View.count c.look.new.view) c.args.site.node) s
    (stood h (g.V.View.overlay c.look.new.view)) c.args.site.owner (c.args.height - 1) k.child
    (ap (λ (x : ℕ). is_on x c.args.site.node) c.in_ok-bytes.ensures.onward.steady.count)
    (ap (stood h) c.in_ok-bytes.ensures.overlay) k.child_stand in
    let at0 : c.addr_of-child.result ≡ addr_of c.in-Some.word = c.addr_of-child.ensures in
    let L : ℕ = c.args.limit - length c.args.out.items in
    let more = c.if-len-limit.false in
    let pos : 0 < L = omega (arith, more, c.len.ensures, c.args.out.ok) in
    let less : compare c.in-Some.key.now c.args.to.now ≡ Less =
    less_of _ (sym c.is_below.ensures ∙ c.if-not-is_below.false) in
    let ahead : Ahead c.args.from.now (map (spell c.args.height) k.rest) =
    c.begins_upto.ensures.ahead (map (spell c.args.height) k.rest) k.rest_fits k.rest_is c.if-begins_upto.false in
    let V : Addr → Type 0 = λ a. Visits c.args.height c.args.from.now c.args.to.now L xs a in
    let first : ReadsOnly V (g.V.View.trace c.args.view.now) (g.V.View.trace c.look.new.view) =
    reads_weaker (λ a. a ≡ c.addr_of-child.result) V (g.V.View.trace c.args.view.now)
    (g.V.View.trace c.look.new.view) (λ a q. k.visit_here L a (q ∙ at0) pos less ahead) c.look.ensures.reads in
    let second : ReadsOnly V (g.V.View.trace c.look.new.view) (g.V.View.trace c.range_in-2.new.view) =
    reads_weaker (λ a. Visits (c.args.height - 1) c.args.from.now c.args.to.now L k.child a) V
    (g.V.View.trace c.look.new.view) (g.V.View.trace c.range_in-2.new.view)
    (λ a v. k.visit_below L a pos less ahead v)
    (c.in_err-out.ensures.reads h k.child k.child_lo k.child_hi (ag) k.child_ways st1 n.fits b) in
    reads_then V (g.V.View.trace c.args.view.now) (g.V.View.trace c.look.new.view)
    (g.V.View.trace c.range_in-2.new.view) first second

pub returns-clause-tells : goal.returns-clause-tells
returns-clause-tells g t c h xs lo hi ag w st fits eq =
    let ne = c.if-body-eq0.false in
    let R : Addr → Bool = is_on (g.V.View.count c.args.view.now) c.args.site.node in
    let s : State = stood h (g.V.View.overlay c.args.view.now) in
    let k : ChildStep R s c.args.site.owner c.args.height (c.args.height - 1) c.args.from.now c.args.to.now xs
    c.in-Some.key.now c.in-Some.word c.in-Some.rest.now hi =
    child_step R s c.args.site.owner c.args.height c.args.from.now c.args.to.now xs lo hi c.args.body.now
    c.in-Some.key.now c.in-Some.word c.in-Some.rest.now c.if-height-eq0.false w st fits eq (omega (arith, ne))
    c.in-Some.ensures.tells in
    let n : Node R s c.args.site.owner 16 (addr_of c.in-Some.word) (map (spell (c.args.height - 1)) k.child) =
    k.child_node in
    let at : c.addr_of-child.result ≡ addr_of c.in-Some.word = c.addr_of-child.ensures in
    let there : s c.addr_of-child.result ≡ Some (node_bytes c.args.site.owner
    (map (spell (c.args.height - 1)) k.child)) = ap s at ∙ n.bytes in
    let same : c.as_slice.result.now ≡ node_bytes c.args.site.owner (map (spell (c.args.height - 1)) k.child) =
    c.as_slice.ensures ∙ some_is _ _
    (sym ((c.in_ok-bytes.ensures.tells h
    (c.in_ok-out.ensures.onward.agreed h (c.range_in-3.ensures.onward.agreed h ag))).1) ∙ there) in
    let b : c.in-Some-node_of.below.now ≡ entries (map (spell (c.args.height - 1)) k.child) =
    c.in-Some-node_of.ensures (map (spell (c.args.height - 1)) k.child) same in
    let st1 = stand_as R (is_on (g.V.View.count c.look.new.view) c.args.site.node) s
    (stood h (g.V.View.overlay c.look.new.view)) c.args.site.owner (c.args.height - 1) k.child
    (ap (λ (x : ℕ). is_on x c.args.site.node) c.in_ok-bytes.ensures.onward.steady.count)
    (ap (stood h) c.in_ok-bytes.ensures.overlay) k.child_stand in
    let st2 = stand_as R (is_on (g.V.View.count c.range_in-2.new.view) c.args.site.node) s
    (stood h (g.V.View.overlay c.range_in-2.new.view)) c.args.site.owner c.args.height k.rest
    (ap (λ (x : ℕ). is_on x c.args.site.node)
    (c.in_ok-out.ensures.onward.steady.count ∙ c.in_ok-bytes.ensures.onward.steady.count))
    (ap (stood h) (c.in_ok-out.ensures.overlay ∙ c.in_ok-bytes.ensures.overlay)) k.rest_stand in
    let one = c.in_ok-out.ensures.tells h k.child k.child_lo k.child_hi (c.range_in-3.ensures.onward.agreed h ag)
    k.child_ways st1 n.fits b in
    tells_to _ c.range_in-3.result _ _ _
    (both_gathered c.args.limit c.args.out.items c.in_ok-out.out.items
    (gathered c.args.limit c.in_ok-out.out.items
    (between c.args.from.now c.args.to.now (contents c.args.height k.rest)))
    (between c.args.from.now c.args.to.now (contents (c.args.height - 1) k.child))
    (between c.args.from.now c.args.to.now (contents c.args.height k.rest))
    (between c.args.from.now c.args.to.now (contents c.args.height xs)) k.both one refl)
    (c.range_in-3.ensures.tells h k.rest k.mid hi ag k.rest_ways st2 k.rest_fits k.rest_is)

pub returns-clause-reads : goal.returns-clause-reads
returns-clause-reads g t c h xs lo hi ag w st fits eq =
    let ne = c.if-body-eq0.false in
    let R : Addr → Bool = is_on (g.V.View.count c.args.view.now) c.args.site.node in
    let s : State = stood h (g.V.View.overlay c.args.view.now) in
    let k : ChildStep R s c.args.site.owner c.args.height (c.args.height - 1) c.args.from.now c.args.to.now xs
    c.in-Some.key.now c.in-Some.word c.in-Some.rest.now hi =
    child_step R s c.args.site.owner c.args.height c.args.from.now c.args.to.now xs lo hi c.args.body.now
    c.in-Some.key.now c.in-Some.word c.in-Some.rest.now c.if-height-eq0.false w st fits eq (omega (arith, ne))
    c.in-Some.ensures.tells in
    let n : Node R s c.args.site.owner 16 (addr_of c.in-Some.word) (map (spell (c.args.height - 1)) k.child) =
    k.child_node in
    let at : c.addr_of-child.result ≡ addr_of c.in-Some.word = c.addr_of-child.ensures in
    let there : s c.addr_of-child.result ≡ Some (node_bytes c.args.site.owner
    (map (spell (c.args.height - 1)) k.child)) = ap s at ∙ n.bytes in
    let same : c.as_slice.result.now ≡ node_bytes c.args.site.owner (map (spell (c.args.height - 1)) k.child) =
    c.as_slice.ensures ∙ some_is _ _
    (sym ((c.in_ok-bytes.ensures.tells h
    (c.in_ok-out.ensures.onward.agreed h (c.range_in-3.ensures.onward.agreed h ag))).1) ∙ there) in
    let b : c.in-Some-node_of.below.now ≡ entries (map (spell (c.args.height - 1)) k.child) =
    c.in-Some-node_of.ensures (map (spell (c.args.height - 1)) k.child) same in
    let st1 = stand_as R (is_on (g.V.View.count c.look.new.view) c.args.site.node) s
    (stood h (g.V.View.overlay c.look.new.view)) c.args.site.owner (c.args.height - 1) k.child
    (ap (λ (x : ℕ). is_on x c.args.site.node) c.in_ok-bytes.ensures.onward.steady.count)
    (ap (stood h) c.in_ok-bytes.ensures.overlay) k.child_stand in
    let st2 = stand_as R (is_on (g.V.View.count c.range_in-2.new.view) c.args.site.node) s
    (stood h (g.V.View.overlay c.range_in-2.new.view)) c.args.site.owner c.args.height k.rest
    (ap (λ (x : ℕ). is_on x c.args.site.node)
    (c.in_ok-out.ensures.onward.steady.count ∙ c.in_ok-bytes.ensures.onward.steady.count))
    (ap (stood h) (c.in_ok-out.ensures.overlay ∙ c.in_ok-bytes.ensures.overlay)) k.rest_stand in
    let at0 : c.addr_of-child.result ≡ addr_of c.in-Some.word = c.addr_of-child.ensures in
    let L : ℕ = c.args.limit - length c.args.out.items in
    let more = c.if-len-limit.false in
    let pos : 0 < L = omega (arith, more, c.len.ensures, c.args.out.ok) in
    let less : compare c.in-Some.key.now c.args.to.now ≡ Less =
    less_of _ (sym c.is_below.ensures ∙ c.if-not-is_below.false) in
    let ahead : Ahead c.args.from.now (map (spell c.args.height) k.rest) =
    c.begins_upto.ensures.ahead (map (spell c.args.height) k.rest) k.rest_fits k.rest_is c.if-begins_upto.false in
    let V : Addr → Type 0 = λ a. Visits c.args.height c.args.from.now c.args.to.now L xs a in
    let first : ReadsOnly V (g.V.View.trace c.args.view.now) (g.V.View.trace c.look.new.view) =
    reads_weaker (λ a. a ≡ c.addr_of-child.result) V (g.V.View.trace c.args.view.now)
    (g.V.View.trace c.look.new.view) (λ a q. k.visit_here L a (q ∙ at0) pos less ahead) c.look.ensures.reads in
    let second : ReadsOnly V (g.V.View.trace c.look.new.view) (g.V.View.trace c.range_in-2.new.view) =
    reads_weaker (λ a. Visits (c.args.height - 1) c.args.from.now c.args.to.now L k.child a) V
    (g.V.View.trace c.look.new.view) (g.V.View.trace c.range_in-2.new.view)
    (λ a v. k.visit_below L a pos less ahead v)
    (c.in_ok-out.ensures.reads h k.child k.child_lo k.child_hi (c.range_in-3.ensures.onward.agreed h ag) k.child_ways
    st1 n.fits b) in
    let one = c.in_ok-out.ensures.tells h k.child k.child_lo k.child_hi (c.range_in-3.ensures.onward.agreed h ag)
    k.child_ways st1 n.fits b in
    let M : ℕ = c.args.limit - length c.in_ok-out.out.items in
    let less1 : M ≡ L - length (between c.args.from.now c.args.to.now (contents (c.args.height - 1) k.child)) =
    wanted c.args.limit c.args.out.items c.in_ok-out.out.items
    (between c.args.from.now c.args.to.now (contents (c.args.height - 1) k.child)) one in
    let third : ReadsOnly V (g.V.View.trace c.range_in-2.new.view) (g.V.View.trace c.range_in-3.new.view) =
    reads_weaker (λ a. Visits c.args.height c.args.from.now c.args.to.now M k.rest a) V
    (g.V.View.trace c.range_in-2.new.view) (g.V.View.trace c.range_in-3.new.view)
    (λ a v. k.visit_rest L M a less1 v)
    (c.range_in-3.ensures.reads h k.rest k.mid hi ag k.rest_ways st2 k.rest_fits k.rest_is) in
    reads_then V (g.V.View.trace c.args.view.now) (g.V.View.trace c.range_in-2.new.view)
    (g.V.View.trace c.range_in-3.new.view)
    (reads_then V (g.V.View.trace c.args.view.now) (g.V.View.trace c.look.new.view)
    (g.V.View.trace c.range_in-2.new.view) first second) third

pub returns-in_err-out-clause-onward : goal.returns-in_err-out-clause-onward
returns-in_err-out-clause-onward g t c = onward_then _ _ _ _ _ _ _ _
    c.in_ok-bytes.ensures.onward c.in_err-out.ensures.onward

pub returns-clause-onward : goal.returns-clause-onward
returns-clause-onward g t c = onward_then _ _ _ _ _ _ _ _
    (onward_then _ _ _ _ _ _ _ _
    c.in_ok-bytes.ensures.onward c.in_ok-out.ensures.onward) c.range_in-3.ensures.onward
