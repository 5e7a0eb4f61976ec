use Rattle.std.proofs.Common.{◌≡◌, ℕ, Bool, true, false, ◌&&◌, List, Option, Some, None, sym, ap, ◌∙◌, eq-eqb}
use Rattle.std.specs.Prelude.{not, ◌==◌, length}
use Rattle.a1_base.specs.declared.place.Addr.{Addr}
use Rattle.object_view.proofs.Layouts.{some_is}
use Rattle.type_schema.specs.Objects.{list_front, long_of}
use Rattle.half_edge_lists.proofs.Halves.{Told, told}
use Rattle.half_edge_lists.proofs.lists.form_of.Goals as goal

other : (a b : Addr) → a ≡ b → true ≡ not ((a.region == b.region) && (a.offset == b.offset)) → ⊥
other a b e t =
    let r : (a.region == b.region) ≡ true = eq-eqb a.region b.region (ap (λ (x : Addr). x.region) e) in
    let o : (a.offset == b.offset) ≡ true = eq-eqb a.offset b.offset (ap (λ (x : Addr). x.offset) e) in
    let n : not ((a.region == b.region) && (a.offset == b.offset)) ≡ false =
    ap (λ (x : Bool). not (x && (a.offset == b.offset))) r ∙ ap not o in
    cc

front_none : (A : Type 0) (bytes : List ℕ) (x : (Addr × ℕ) × List ℕ) → list_front bytes ≡ None
    → list_front bytes ≡ Some x → A
front_none A bytes x n s = absurd cc

long_none : (A : Type 0) (bytes : List ℕ) (x : ℕ × Addr) → ◌≡◌ {A = Option (ℕ × Addr)} None (long_of bytes)
    → long_of bytes ≡ Some x → A
long_none A bytes x n s = absurd cc

pub returns-in_err-found : goal.returns-in_err-found
returns-in_err-found c nodes s at halves places here l =
    let t : Told nodes s at c.args.owner halves places c.args.bytes.now =
    told nodes s at c.args.owner halves places c.args.bytes.now here l in
    front_none _ c.args.bytes.now _ c.in_err-found.ensures t.front

pub returns-then-ne : goal.returns-then-ne
returns-then-ne c nodes s at halves places here l =
    let t : Told nodes s at c.args.owner halves places c.args.bytes.now =
    told nodes s at c.args.owner halves places c.args.bytes.now here l in
    let e : ◌≡◌ {A = (Addr × ℕ) × List ℕ} ((c.in_ok-found.found, c.in_ok-found.form), c.in_ok-found.rest.now)
    ((c.args.owner, t.code), t.rest) = some_is _ _ (sym c.in_ok-found.ensures ∙ t.front) in
    other c.in_ok-found.found c.args.owner (ap (λ (x : (Addr × ℕ) × List ℕ). x.0.0) e) c.if-ne.ensures

pub returns-then-form-eq0 : goal.returns-then-form-eq0
returns-then-form-eq0 c nodes s at halves places here l =
    let t : Told nodes s at c.args.owner halves places c.args.bytes.now =
    told nodes s at c.args.owner halves places c.args.bytes.now here l in
    let e : ◌≡◌ {A = (Addr × ℕ) × List ℕ} ((c.args.owner, t.code), t.rest)
    ((c.in_ok-found.found, c.in_ok-found.form), c.in_ok-found.rest.now) =
    some_is _ _ (sym t.front ∙ c.in_ok-found.ensures) in
    let short = t.short (ap (λ (x : (Addr × ℕ) × List ℕ). x.0.1) e ∙ c.if-form-eq0.true) in
    (short.0, ap (λ (x : (Addr × ℕ) × List ℕ). x.1) (sym e) ∙ short.1)

pub returns-in_err-count : goal.returns-in_err-count
returns-in_err-count c nodes s at halves places here l =
    let t : Told nodes s at c.args.owner halves places c.args.bytes.now =
    told nodes s at c.args.owner halves places c.args.bytes.now here l in
    let e : ◌≡◌ {A = (Addr × ℕ) × List ℕ} ((c.in_ok-found.found, c.in_ok-found.form), c.in_ok-found.rest.now)
    ((c.args.owner, t.code), t.rest) = some_is _ _ (sym c.in_ok-found.ensures ∙ t.front) in
    let long = t.long (λ z. c.if-form-eq0.false (ap (λ (x : (Addr × ℕ) × List ℕ). x.0.1) e ∙ z)) in
    long_none _ c.in_ok-found.rest.now _ c.in_err-count.ensures
    (ap (λ (x : (Addr × ℕ) × List ℕ). long_of x.1) e ∙ long.1)

pub returns : goal.returns
returns c nodes s at halves places here l =
    let t : Told nodes s at c.args.owner halves places c.args.bytes.now =
    told nodes s at c.args.owner halves places c.args.bytes.now here l in
    let e : ◌≡◌ {A = (Addr × ℕ) × List ℕ} ((c.in_ok-found.found, c.in_ok-found.form), c.in_ok-found.rest.now)
    ((c.args.owner, t.code), t.rest) = some_is _ _ (sym c.in_ok-found.ensures ∙ t.front) in
    let long = t.long (λ z. c.if-form-eq0.false (ap (λ (x : (Addr × ℕ) × List ℕ). x.0.1) e ∙ z)) in
    let n : ◌≡◌ {A = ℕ × Addr} (length halves, long.0.anchor) (c.in_ok-count.count, c.in_ok-count.anchor) =
    some_is _ _ (sym (ap (λ (x : (Addr × ℕ) × List ℕ). long_of x.1) e ∙ long.1) ∙ sym c.in_ok-count.ensures) in
    (long.0, ap (λ (x : ℕ × Addr). x.1) n, ap (λ (x : ℕ × Addr). x.0) (sym n))
