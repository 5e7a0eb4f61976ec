-- An event of an open transaction, whichever it is.
use Rattle.std.proofs.Common.{◌≡◌, ℕ, ◌<◌, Bool, true, false, List, length, Result, Ok, Err, sym, refl, ◌∙◌, subst, inl, inr, arith}
use Rattle.std.proofs.lemmas.Bool.{both_ways}
use Rattle.farm_core.proofs.Words.{Memory, TxnId, Node, Bytes, Event, Answer, Active, State, Meets, InRange, Reached, At, AtClock, Acted, Stepped, ActsOn}
use Rattle.farm_core.proofs.Words.{CanAct, CanActAt, IsOf, meets_in}
use Rattle.farm_core.specs.declared.event.Event.TheVariants as event
use Rattle.farm_core.specs.declared.event.Answer.TheVariants as answer
use Rattle.farm_core.proofs.Slots.{aside_self}
use Rattle.farm_core.proofs.Conditions.{meets_iff}

acted_clock : (z : Active) (nodes : List Node) (clock : ℕ) (t : TxnId) (s : State) (e : Event) (result : Result Answer Memory) → clock ≡ s.clock
    → Acted t s e result (λ later. At z nodes t later × (later.clock ≡ s.clock)) → Acted t s e result (AtClock z nodes clock t)
acted_clock z nodes clock t s e (Ok x) is acted = (acted.0, acted.1, acted.2, record { standing = acted.3.0; clock_is = is ∙ sym acted.3.1 })
acted_clock z nodes clock t s e (Err m) is acted = record { standing = acted.0; clock_is = is }

pub acted_is : (x z : Active) (nodes after : List Node) (clock : ℕ) (u : TxnId) (e f : Event) (result : Result Answer Memory) → e ≡ f → ((t : TxnId) → IsOf t f → u ≡ t)
    → ActsOn x nodes u f result z after → (t : TxnId) (s : State) → IsOf t e → Reached s → AtClock x nodes clock t s → Meets s e → Acted t s e result (AtClock z after clock t)
acted_is x z nodes after clock u e f result is one acts t s own r at meets =
    let same : u ≡ t = one t (subst (IsOf t) is own) in
    let moved : ActsOn x nodes t e result z after = subst (λ (w : TxnId × Event). ActsOn x nodes w.0 w.1 result z after) (λ i. (same i, sym is i)) acts in
    acted_clock z after clock t s e result at.clock_is (moved s r at.standing meets)

-- the same for a draw, which moves the clock
pub drawn_is : (x z : Active) (nodes : List Node) (clock later_clock : ℕ) (u : TxnId) (e : Event) (result : Result Answer Memory) → e ≡ event.Draw u
    → ((all : List Node) (s : State) → Reached s → AtClock x all clock u s → Meets s (event.Draw u) → Acted u s (event.Draw u) result (AtClock z all later_clock u))
    → (t : TxnId) (s : State) → IsOf t e → Reached s → AtClock x nodes clock t s → Meets s e → Acted t s e result (AtClock z nodes later_clock t)
drawn_is x z nodes clock later_clock u e result is acts t s own r at meets =
    let same : u ≡ t = subst (IsOf t) is own in
    subst (λ (w : TxnId × Event). AtClock x nodes clock w.0 s → Meets s w.1 → Acted w.0 s w.1 result (AtClock z nodes later_clock w.0)) (λ i. (same i, sym is i)) (acts nodes s r) at meets

pub can_act : (x : Active) (nodes : List Node) (clock : ℕ) (u : TxnId) (e f : Event) → CanActAt x nodes clock e → e ≡ f → ((t : TxnId) → IsOf t f → u ≡ t) → CanAct x nodes u f
can_act x nodes clock u e f can is own =
    let same : u ≡ can.0 = own can.0 (subst (IsOf can.0) is can.2) in
    (can.1, can.3, subst (λ (t : TxnId). At x nodes t can.1) (sym same) can.4.standing, subst (Meets can.1) is can.5)

pub can_draw : (x : Active) (nodes : List Node) (clock : ℕ) (u : TxnId) (e : Event) → CanActAt x nodes clock e → e ≡ event.Draw u
    → (all : List Node) × (s : State) × Reached s × AtClock x all clock u s × Meets s (event.Draw u)
can_draw x nodes clock u e can is =
    let same : u ≡ can.0 = subst (IsOf can.0) is can.2 in
    (nodes, can.1, can.3, subst (λ (t : TxnId). AtClock x nodes clock t can.1) (sym same) can.4, subst (Meets can.1) is can.5)

pub node_is_there : (x : Active) (nodes : List Node) (clock : ℕ) (u : TxnId) (n : ℕ) (bytes : Bytes) (e : Event) → CanActAt x nodes clock e → e ≡ event.Alloc u n bytes → n < length nodes
node_is_there x nodes clock u n bytes e can is =
    let range : InRange can.1.nodes (event.Alloc u n bytes) = subst (InRange can.1.nodes) is can.6 in
    let low : n < can.1.nodes = range.1 in
    let number : length nodes ≡ can.1.nodes = can.4.standing.nodes_stand.number in
    omega arith

-- an event that is answered, and one that lacks its condition

module _ (x : Active) (nodes : List Node) (clock : ℕ) (t : TxnId) (e : Event) (asked : Bool) (is : asked ≡ meets_in x nodes t e) where
  pub asks : asked ≡ true → (s : State) × Reached s × AtClock x nodes clock t s × IsOf t e × InRange s.nodes e → CanActAt x nodes clock e
  asks does can = (t, can.0, can.3, can.1, can.2, (meets_iff can.0 can.1 t x nodes can.2.standing e can.3).0 (sym is ∙ does), can.4)

  pub steps : asked ≡ true → (z : Active) (after : List Node) (later_clock : ℕ) (result : Result Answer Memory)
      → ((u : TxnId) (s : State) → IsOf u e → Reached s → AtClock x nodes clock u s → Meets s e → Acted u s e result (AtClock z after later_clock u))
      → (s : State) → Reached s → AtClock x nodes clock t s → IsOf t e → Stepped t s e result (AtClock z after later_clock t)
  steps does z after later_clock result acts s r at own = by result (acts t s own r at meets) where
    meets : Meets s e
    meets = (meets_iff s r t x nodes at.standing e own).0 (sym is ∙ does)

    by : (result : Result Answer Memory) → Acted t s e result (AtClock z after later_clock t) → Stepped t s e result (AtClock z after later_clock t)
    by (Ok x) acted = (acted.0, inl (meets, acted.1), acted.2, acted.3)
    by (Err m) acted = acted

  pub lacks : asked ≡ false → (s : State) → Reached s → AtClock x nodes clock t s → IsOf t e → Stepped t s e (Ok answer.No) (AtClock x nodes clock t)
  lacks fails s r at own = (
    s,
    inr (λ meets. both_ways asked fails (is ∙ (meets_iff s r t x nodes at.standing e own).1 meets), (refl, refl)),
    aside_self t s,
    at,
  )
