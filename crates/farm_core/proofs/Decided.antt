-- A state and an event have one answer.
use Rattle.std.proofs.Common.{◌≡◌, ◌⊎◌, inl, inr, ◌∙◌, ℕ, ◌+◌, ◌*◌, ◌<◌, List, [], ◌∷◌, Ok, Err, true, false, refl, sym, subst, arith, ⊎_elim}
use Rattle.std.specs.Prelude.{max}
use Rattle.farm_core.proofs.Words.{LAST_STAMP, Addr, TxnId, Occupancy, LeastOfMade, FirstOfNext, LeastFree, IsAmong, Bytes}
use Rattle.farm_core.proofs.Words.{read_answer, lock_answer, check_answer, occupancy, Event, Answer, State, node_at, node_of, with_locked, adding, moving}
use Rattle.farm_core.proofs.Words.{Gives, Reads, Allocates, Locks, Draws, Checks, Acts, Steps, Runs}
use Rattle.farm_node.specs.declared.entry.Entry.TheVariants as entry
use Rattle.farm_core.specs.declared.event.Event.TheVariants as event
use Rattle.farm_core.specs.declared.event.Answer.TheVariants as answer

-- ---- one place comes next

not_less : (m n : ℕ) → (m < n → ⊥) → (n < m → ⊥) → m ≡ n
not_less m n not_m not_n = omega arith

addr_of_parts : (a b : Addr) → a.region ≡ b.region → a.offset ≡ b.offset → a ≡ b
addr_of_parts a b r o = λ i. record { region = r i; offset = o i }

made_before : (o : Occupancy) (a b : Addr) → LeastFree o a → LeastOfMade o a → LeastOfMade o b
    → (a.region < b.region) ⊎ ((a.region ≡ b.region) × (a.offset < b.offset)) → ⊥
made_before o a b x least_a least_b before = let taken : true ≡ false = sym (least_b.below_taken a least_a.region_made x.place.1 before) ∙ x.free in cc

both_made : (o : Occupancy) (a b : Addr) → LeastFree o a → LeastOfMade o a → LeastFree o b → LeastOfMade o b → a ≡ b
both_made o a b x least_a y least_b =
    let not_a = made_before o a b x least_a least_b in
    let not_b = made_before o b a y least_b least_a in
    let region : a.region ≡ b.region = not_less a.region b.region (λ l. not_a (inl l)) (λ l. not_b (inl l)) in
    addr_of_parts a b region (not_less a.offset b.offset (λ l. not_a (inr (region, l))) (λ l. not_b (inr (sym region, l))))

made_and_next : {A : Type 0} (o : Occupancy) (a b : Addr) → LeastFree o a → LeastOfMade o a → FirstOfNext o b → A
made_and_next o a b x made next = absurd (let taken : true ≡ false = sym (next.all_taken a made.region_made x.place.1) ∙ x.free in cc)

next_before : (o : Occupancy) (a b : Addr) → LeastFree o a → FirstOfNext o a → FirstOfNext o b → a.region < b.region → ⊥
next_before o a b x next_a next_b less =
    let k = x.place.0.0 in
    let is : a.region ≡ o.node + k * o.nodes = x.place.0.2 in
    next_a.not_made (subst (λ n. IsAmong n o.regions) (sym is) (next_b.lower_made k (subst (λ n. n < b.region) is less)))

both_next : (o : Occupancy) (a b : Addr) → LeastFree o a → FirstOfNext o a → LeastFree o b → FirstOfNext o b → a ≡ b
both_next o a b x next_a y next_b =
    addr_of_parts a b (not_less a.region b.region (next_before o a b x next_a next_b) (next_before o b a y next_b next_a)) (next_a.first ∙ sym next_b.first)

one_place : (o : Occupancy) (a b : Addr) → LeastFree o a → LeastFree o b → a ≡ b
one_place o a b x y =
    ⊎_elim
    (λ made_a. ⊎_elim (λ made_b. both_made o a b x made_a y made_b) (λ next_b. made_and_next o a b x made_a next_b) y.least)
    (λ next_a. ⊎_elim (λ made_b. made_and_next o b a y made_b next_a) (λ next_b. both_next o a b x next_a y next_b) y.least)
    x.least

-- ---- one answer comes to an event

abbrev Same : Answer → State → Answer → State → Type 0
Same x next y other = (x ≡ y) × (next ≡ other)

-- it holds of one answer and one state alone
abbrev IsOne : (Answer → State → Type 0) → Type 0
IsOne P = (x : Answer) (next : State) (y : Answer) (other : State) → P x next → P y other → Same x next y other

gives_one : (due : Answer) (later : State) → IsOne (Gives due later)
gives_one due later x next y other g h = (g.0 ∙ sym h.0, g.1 ∙ sym h.1)

-- of two ways each has one answer, and both are not open
one_of : (P Q : Answer → State → Type 0) → IsOne P → IsOne Q → ((x : Answer) (next : State) (y : Answer) (other : State) → P x next → Q y other → ⊥) → IsOne (λ x next. P x next ⊎ Q x next)
one_of P Q first second apart x next y other g h = ⊎_elim
    (λ p. ⊎_elim (first x next y other p) (λ q. absurd (apart x next y other p q)) h)
    (λ q. ⊎_elim (λ p. absurd (apart y other x next p q)) (second x next y other q) h)
    g

draws_one : (s : State) (t : TxnId) → IsOne (Draws s t)
draws_one s t = one_of _ _ (λ x next y other g h. gives_one _ _ x next y other g.1 h.1) (λ x next y other g h. gives_one _ _ x next y other g.1 h.1)
    (λ x next y other low full. let l : s.clock < LAST_STAMP = low.0 in let e : s.clock ≡ LAST_STAMP = full.0 in omega arith)

allocates_one : (s : State) (t : TxnId) (n r : ℕ) (bytes : Bytes) → IsOne (Allocates s t n r bytes)
allocates_one s t n r bytes = one_of _ _
    (λ x next y other g h. gives_one _ _ x next y other g.2
    (subst (λ a. let bound = max (node_at s n).past r in Gives (answer.Placed a bound) (moving t (with_locked a) (adding n (entry.Alloc t r bytes (record { at = a; bound = bound })) s)) y other)
    (one_place (occupancy (node_at s n)) h.0 g.0 h.1 g.1) h.2))
    (λ x next y other g h. gives_one _ _ x next y other g.1 h.1)
    (λ x next y other g h. let taken : true ≡ false = sym (h.0 g.0 g.1.place) ∙ g.1.free in cc)

act_one : (s : State) (e : Event) → IsOne (Acts s e)
act_one s (event.Read t a) = elim (read_answer (s.transactions t).read_stamp ((node_of s a).cells a)) as (λ y. IsOne (Reads s t a (s.transactions t).read_stamp y))
    [ Ok found ↦ gives_one _ _ | Err by ↦ gives_one _ _ ]
act_one s (event.Alloc t n bytes) = allocates_one s t n (s.transactions t).read_stamp bytes
act_one s (event.Lock t a value) = elim (lock_answer t (s.transactions t).read_stamp ((node_of s a).cells a)) as (λ y. IsOne (Locks s t a (s.transactions t).read_stamp value y))
    [ Ok given ↦ gives_one _ _ | Err fault ↦ gives_one _ _ ]
act_one s (event.Draw t) = draws_one s t
act_one s (event.Check t a) = elim (check_answer (s.transactions t).read_stamp ((node_of s a).cells a)) as (λ y. IsOne (Checks s t a (s.transactions t).read_stamp (s.transactions t).write_stamp y))
    [ Ok same ↦ gives_one _ _ | Err fault ↦ gives_one _ _ ]
act_one s e = gives_one _ _

step_one : (s : State) (e : Event) → IsOne (Steps s e)
step_one s e = one_of _ _ (λ x next y other g h. act_one s e x next y other g.1 h.1) (λ x next y other g h. gives_one _ _ x next y other g.1 h.1) (λ x next y other done lacks. lacks.0 done.0)

pub one_run : (s first second : State) (events : List Event) (xs ys : List Answer) → Runs s events xs first → Runs s events ys second → (xs ≡ ys) × (first ≡ second)
one_run s first second [] [] [] g h = (refl, g ∙ sym h)
one_run s first second (e ∷ es) (x ∷ xs) (y ∷ ys) g h =
    let same : Same x g.1.0 y h.1.0 = step_one s e x g.1.0 y h.1.0 g.1.1 h.1.1 in
    let more : (xs ≡ ys) × (first ≡ second) = one_run h.1.0 first second es xs ys (subst (λ now. Runs now es xs first) same.1 g.1.2) h.1.2 in
    (λ i. same.0 i ∷ more.0 i, more.1)
one_run s first second [] [] (y ∷ ys) g h = absurd h
one_run s first second (e ∷ es) (x ∷ xs) [] g h = absurd h
one_run s first second es xs ys g h = absurd g
