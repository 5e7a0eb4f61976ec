-- What every state of a lawful list keeps as a whole: the places of its objects, its pins, and the range of its stamps.
use Rattle.farm_node.proofs.Common.{◌≡◌, ◌≢◌, ℕ, zero, suc, ◌<◌, ◌≤◌, nat_le, nat_lt, eqb, max, min, cond, Bool, true, false, ◌&&◌, List, [], ◌∷◌, Option, Some}
use Rattle.farm_node.proofs.Common.{None, Ok, sym, refl, ap, ◌∙◌, subst, inl, inr, ⊎_elim, arith, cond_both, and_parts, eq-eqb, eqb-true, Addr, TxnId, IsAmong}
use Rattle.farm_node.proofs.Common.{IsStamp, width, add_region, Version, cut, Start, Entry, Made, Open, Shut, Read, Alloc, Lock, Check, Put, Unlock, Collect}
use Rattle.farm_node.proofs.Common.{Bytes, Cell, same_txn, raised_to, past_raised, made_by, locked_by, installed, released, past_released, goes, collected}
use Rattle.farm_node.proofs.Common.{past_collected, NodeState, set_cell, set_pin, places_in, places, lesser, least_pin, new_floor, past_over, PinnedBy, Fits}
use Rattle.farm_node.proofs.Common.{looked_at, after, loaded_cells, loaded_regions, begun, Loads, IsStart, replay_from, LawfulFrom, replay, Lawful, StampsBelow}
use mathlib.Core.Logic.{dite}
use native.Mathlib.Decide.{ℕ_discrete}
use Rattle.farm_node.proofs.Addresses.{set_cases}

-- the test of two transactions tells that they are one
pub txn_eq : (t u : TxnId) → same_txn t u ≡ true → t ≡ u
txn_eq t u e =
    let parts = and_parts (eqb t.actor u.actor) (eqb t.number u.number) e in
    λ i. record { actor = eqb-true t.actor u.actor parts.0 i; number = eqb-true t.number u.number parts.1 i }

-- it passes at one
pub txn_self : (t : TxnId) → same_txn t t ≡ true
txn_self t = ap (λ (x : Bool). x && eqb t.number t.number) (eq-eqb t.actor t.actor refl) ∙ eq-eqb t.number t.number refl

-- where an object is there, X holds of it
abbrev pub Here : (Cell → Type 0) → Option Cell → Type 0
Here X None = Unit {0}
Here X (Some c) = X c

here_set : (X : Addr → Cell → Type 0) (b a : Addr) (c : Option Cell) (cells : Addr → Option Cell) → Here (X b) c → Here (X a) (cells a) → Here (X a) (set_cell b c cells a)
here_set X b a c cells at_b at_a = set_cases (λ z d. Here (X z) d) b a c cells at_b (λ e. at_a)

here_more : (X Y : Cell → Type 0) (c : Option Cell) → ((d : Cell) → X d → Y d) → Here X c → Here Y c
here_more X Y None f h = h
here_more X Y (Some c) f h = f c h

abbrev pub Lies : List ℕ → Addr → Type 0
Lies regions a = IsAmong a.region regions × (a.offset < width)

-- an object lies in a made region, and its stamps are in range
pub record Sits (regions : List ℕ) (a : Addr) (c : Cell) : Type 0 where
  pub lies : Lies regions a
  pub bound : IsStamp c.bound
  pub versions : StampsBelow c.versions

-- a pin is an actor's, in range and not below the floor
abbrev pub PinOk : ℕ → ℕ → ℕ → Option ℕ → Type 0
PinOk actors floor k None = Unit {0}
PinOk actors floor k (Some x) = (0 < k) × (k ≤ actors) × (floor ≤ x) × IsStamp x

pub record Sound (p : NodeState) : Type 0 where
  pub sits : (a : Addr) → Here (Sits p.regions a) (p.cells a)
  pub pins : (k : ℕ) → PinOk p.actors p.floor k (p.pins k)
  pub past : IsStamp p.past
  pub floor : IsStamp p.floor

-- stamps

pub less_max : (m n top : ℕ) → m < top → n < top → max m n < top
less_max m n top low low' = omega arith

less_at_most : (m n top : ℕ) → m ≤ n → n < top → m < top
less_at_most m n top le low = omega arith

cut_below : (floor : ℕ) (vs : List Version) → StampsBelow vs → StampsBelow (cut floor vs)
cut_below floor [] t = tt
cut_below floor (v ∷ vs) t = elim (nat_le v.0 floor) as (λ g. StampsBelow (cond g (v ∷ []) (v ∷ cut floor vs))) [ true ↦ (t.0, tt) | false ↦ (t.0, cut_below floor vs t.1) ]

-- what an event leaves in its place

module _ (regions : List ℕ) (a : Addr) where
  raised_sits : (s : ℕ) (c : Option Cell) → IsStamp s → Here (Sits regions a) c → Here (Sits regions a) (raised_to s c)
  raised_sits s None low t = t
  raised_sits s (Some c) low t = record { lies = t.lies; bound = less_max c.bound s _ t.bound low; versions = t.versions }

  locked_sits : (t : TxnId) (new : Option Bytes) (c : Option Cell) → Here (Sits regions a) c → Here (Sits regions a) (locked_by t new c)
  locked_sits t new None h = h
  locked_sits t new (Some c) h = record { lies = h.lies; bound = h.bound; versions = h.versions }

  installed_sits : (w : ℕ) (c : Option Cell) → IsStamp w → Here (Sits regions a) c → Here (Sits regions a) (installed w c)
  installed_sits w None low h = h
  installed_sits w (Some c) low h = record { lies = h.lies; bound = low; versions = (low, h.versions) }

  released_sits : (c : Option Cell) → Here (Sits regions a) c → Here (Sits regions a) (released c)
  released_sits None h = h
  released_sits (Some c) h = elim c.versions as (λ vs. Here (Sits regions a) (elim vs as (λ _. Option Cell) [ [] ↦ None | v ∷ more ↦ Some (record c { lock = None }) ]))
      [ [] ↦ tt | v ∷ more ↦ record { lies = h.lies; bound = h.bound; versions = h.versions } ]

  collected_sits : (floor : ℕ) (c : Option Cell) → Here (Sits regions a) c → Here (Sits regions a) (collected floor c)
  collected_sits floor None h = h
  collected_sits floor (Some c) h =
      cond_both (goes floor c) _ _ (Here (Sits regions a)) (λ is. tt) (λ is. record { lies = h.lies; bound = h.bound; versions = cut_below floor c.versions h.versions })

  -- what past may come to
  raised_past_below : (s : ℕ) (c : Option Cell) (past : ℕ) → IsStamp s → IsStamp past → IsStamp (past_raised s c past)
  raised_past_below s None past low t = less_max past s _ t low
  raised_past_below s (Some c) past low t = t

  released_past_below : (c : Option Cell) (past : ℕ) → Here (Sits regions a) c → IsStamp past → IsStamp (past_released c past)
  released_past_below None past h t = t
  released_past_below (Some c) past h t = elim c.versions as (λ vs. IsStamp (elim vs as (λ _. ℕ) [ [] ↦ max past c.bound | v ∷ more ↦ past ]))
      [ [] ↦ less_max past c.bound _ t h.bound | v ∷ more ↦ t ]

  collected_past_below : (floor : ℕ) (c : Option Cell) (past : ℕ) → Here (Sits regions a) c → IsStamp past → IsStamp (past_collected floor c past)
  collected_past_below floor None past h t = t
  collected_past_below floor (Some c) past h t = cond_both (goes floor c) _ _ IsStamp (λ is. less_max c.bound past _ h.bound t) (λ is. t)

past_over_below : (regions : List ℕ) (floor : ℕ) (cells : Addr → Option Cell) (all : List Addr) (past : ℕ) → ((a : Addr) → Here (Sits regions a) (cells a)) → IsStamp past → IsStamp (past_over floor cells all past)
past_over_below regions floor cells [] past sits t = t
past_over_below regions floor cells (b ∷ bs) past sits t = collected_past_below regions b floor (cells b) (past_over floor cells bs past) (sits b) (past_over_below regions floor cells bs past sits t)

-- places

in_added : (n : ℕ) (ms : List ℕ) → IsAmong n (add_region n ms)
in_added n [] = inl refl
in_added n (m ∷ ms) = cond_both (eqb n m) _ _ (IsAmong n) (λ is. inl (sym (eqb-true n m is)))
    (λ e. cond_both (nat_lt n m) _ _ (IsAmong n) (λ low. inl refl) (λ high. inr (in_added n ms)))

in_still : (n k : ℕ) (ms : List ℕ) → IsAmong n ms → IsAmong n (add_region k ms)
in_still n k [] t = absurd t
in_still n k (m ∷ ms) t = cond_both (eqb k m) _ _ (IsAmong n) (λ is. t)
    (λ e. cond_both (nat_lt k m) _ _ (IsAmong n) (λ low. inr t) (λ high. ⊎_elim (λ is. inl is) (λ more. inr (in_still n k ms more)) t))

sits_still : (regions : List ℕ) (n : ℕ) (a : Addr) (c : Cell) → Sits regions a c → Sits (add_region n regions) a c
sits_still regions n a c t = record { lies = (in_still a.region n regions t.lies.0, t.lies.1); bound = t.bound; versions = t.versions }

among_places : (a : Addr) (n : ℕ) (more : List Addr) → a.offset < n → IsAmong a (places_in a.region n more)
among_places a zero more low = absurd (omega arith)
among_places a (suc n) more low = dite (ℕ_discrete n a.offset)
    (λ (e : n ≡ a.offset). inl (λ i. record { region = a.region; offset = e i })) (λ (ne : n ≢ a.offset). inr (among_places a n more (omega arith)))

among_behind : (a : Addr) (r n : ℕ) (more : List Addr) → IsAmong a more → IsAmong a (places_in r n more)
among_behind a r zero more t = t
among_behind a r (suc n) more t = inr (among_behind a r n more t)

-- each place of a made region is among the places
pub among_all : (a : Addr) (regions : List ℕ) → Lies regions a → IsAmong a (places regions)
among_all a [] lies = absurd lies.0
among_all a (r ∷ rs) lies = ⊎_elim
    (λ (e : r ≡ a.region). subst (λ (z : ℕ). IsAmong a (places_in z width (places rs))) (sym e) (among_places a width (places rs) lies.1))
    (λ more. among_behind a r width (places rs) (among_all a rs (more, lies.1))) lies.0

-- pins

abbrev PinAbove : ℕ → Option ℕ → Type 0
PinAbove m None = Unit {0}
PinAbove m (Some x) = m ≤ x

pin_above_less : (m n : ℕ) (x : Option ℕ) → m ≤ n → PinAbove n x → PinAbove m x
pin_above_less m n None le h = h
pin_above_less m n (Some x) le h = omega arith

least_below : (f : ℕ) (pins : ℕ → Option ℕ) (n : ℕ) → least_pin f pins n ≤ f
least_below f pins zero = omega arith
least_below f pins (suc n) =
    let below : least_pin f pins n ≤ f = least_below f pins n in
    elim (pins (suc n)) as (λ c. lesser c (least_pin f pins n) ≤ f) [ None ↦ below | Some x ↦ omega arith ]

least_at : (f : ℕ) (pins : ℕ → Option ℕ) (n k : ℕ) → 0 < k → k ≤ n → PinAbove (least_pin f pins n) (pins k)
least_at f pins zero k low high = absurd (omega arith)
least_at f pins (suc n) k low high = dite (ℕ_discrete (suc n) k)
    (λ (is : suc n ≡ k). subst (λ (z : ℕ). PinAbove (least_pin f pins (suc n)) (pins z)) is
    (elim (pins (suc n)) as (λ c. PinAbove (lesser c (least_pin f pins n)) c) [ None ↦ tt | Some x ↦ omega arith ]))
    (λ (ne : suc n ≢ k).
    let below : k ≤ n = omega arith in
    let r : PinAbove (least_pin f pins n) (pins k) = least_at f pins n k low below in
    elim (pins (suc n)) as (λ c. PinAbove (lesser c (least_pin f pins n)) (pins k))
    [ None ↦ r | Some x ↦ pin_above_less (min x (least_pin f pins n)) (least_pin f pins n) (pins k) (omega arith) r ])

pin_collected : (actors floor k f : ℕ) (x : Option ℕ) → PinOk actors floor k x → (0 < k → k ≤ actors → PinAbove f x) → PinOk actors (max floor f) k x
pin_collected actors floor k f None ok le = tt
pin_collected actors floor k f (Some x) ok le = let a : floor ≤ x = ok.2 in let b : f ≤ x = le ok.0 ok.1 in (ok.0, ok.1, omega arith, ok.3)

pin_set : (actors floor k j : ℕ) (x : Option ℕ) (pins : ℕ → Option ℕ) → PinOk actors floor k x → PinOk actors floor j (pins j) → PinOk actors floor j (set_pin k x pins j)
pin_set actors floor k j x pins at_k at_j =
    cond_both (eqb k j) _ _ (PinOk actors floor j) (λ e. subst (λ (z : ℕ). PinOk actors floor z x) (eqb-true k j e) at_k) (λ e. at_j)

pin_opened : (actors floor k c x : ℕ) → 0 < k → k ≤ actors → IsStamp c → IsStamp floor → x ≡ max c floor → PinOk actors floor k (Some x)
pin_opened actors floor k c x low high stamp stamp' is = (low, high, omega arith, subst (λ (z : ℕ). IsStamp z) (sym is) (less_max c floor _ stamp stamp'))

-- what is at one address changes, past, or a pin

cells_changed : (p : NodeState) (b : Addr) (c : Option Cell) (past : ℕ) → Sound p → Here (Sits p.regions b) c → IsStamp past → Sound (record p { cells = set_cell b c p.cells; past = past })
cells_changed p b c past t sits low = record { sits = λ a. here_set (Sits p.regions) b a c p.cells sits (t.sits a); pins = t.pins; past = low; floor = t.floor }

pins_changed : (p : NodeState) (k : ℕ) (x : Option ℕ) → Sound p → PinOk p.actors p.floor k x → Sound (record p { pins = set_pin k x p.pins })
pins_changed p k x t ok = record { sits = t.sits; pins = λ j. pin_set p.actors p.floor k j x p.pins ok (t.pins j); past = t.past; floor = t.floor }

looked : (p : NodeState) (b : Addr) (s : ℕ) → IsStamp s → Sound p → Sound (looked_at b s p)
looked p b s low t = cells_changed p b (raised_to s (p.cells b)) _ t (raised_sits p.regions b s (p.cells b) low (t.sits b)) (raised_past_below p.regions b s (p.cells b) p.past low t.past)

pub sound : (p : NodeState) (e : Entry) → Fits p e → Sound p → Sound (after p e)
sound p (Open k c x) fits t = pins_changed p k (Some x) t (pin_opened p.actors p.floor k c x fits.0 fits.1 fits.3 t.floor fits.4)
sound p (Shut k) fits t = pins_changed p k None t tt
sound p (Read k b s (Ok found)) fits t = looked p b s fits.1 t
sound p (Alloc u r v placed) fits t =
    let regions : List ℕ = add_region placed.at.region p.regions in
    let bound : IsStamp placed.bound = subst IsStamp (sym fits.3) (less_max p.past r _ t.past fits.1) in
    let sits = λ (a : Addr). here_set (Sits regions) placed.at a (Some (made_by u v placed.bound)) p.cells record { lies = (in_added placed.at.region p.regions, fits.2.place.1); bound = bound; versions = tt }
    (here_more (Sits p.regions a) (Sits regions a) (p.cells a) (sits_still p.regions placed.at.region a) (t.sits a)) in
    record { sits = sits; pins = t.pins; past = t.past; floor = t.floor }
sound p (Lock u b r new (Ok locked)) fits t = cells_changed p b (locked_by u new (p.cells b)) p.past t (locked_sits p.regions b u new (p.cells b) (t.sits b)) t.past
sound p (Check u b r w (Ok same)) fits t = looked p b w fits.stamps.1 t
sound p (Put u b w) fits t = cells_changed p b (installed w (p.cells b)) p.past t (installed_sits p.regions b w (p.cells b) fits.1 (t.sits b)) t.past
sound p (Unlock u b) fits t = cells_changed p b (released (p.cells b)) _ t (released_sits p.regions b (p.cells b) (t.sits b)) (released_past_below p.regions b (p.cells b) p.past (t.sits b) t.past)
sound p (Collect k f removed) fits t = record {
  sits = λ a. collected_sits p.regions a (new_floor p f) (p.cells a) (t.sits a);
  pins = λ j. pin_collected p.actors p.floor j (least_pin f p.pins p.actors) (p.pins j) (t.pins j) (λ low high. least_at f p.pins p.actors j low high);
  past = past_over_below p.regions (new_floor p f) p.cells (places p.regions) p.past t.sits t.past;
  floor = less_max p.floor (least_pin f p.pins p.actors) _ t.floor (less_at_most _ f _ (least_below f p.pins p.actors) fits.1);
}
sound p e fits t = t

-- the beginning

loaded_sits : (m : Start) (heap : List (Addr × Bytes)) → IsStamp m.stamp → Loads m heap → (a : Addr) → Here (Sits (loaded_regions heap) a) (loaded_cells m.stamp heap a)
loaded_sits m [] low loads a = tt
loaded_sits m (x ∷ xs) low loads a = set_cases (λ z c. Here (Sits (add_region x.0.region (loaded_regions xs)) z) c) x.0 a _ (loaded_cells m.stamp xs)
    record { lies = (in_added x.0.region (loaded_regions xs), loads.0.1); bound = low; versions = (low, tt) }
    (λ e. here_more (Sits (loaded_regions xs) a) (Sits (add_region x.0.region (loaded_regions xs)) a) (loaded_cells m.stamp xs a) (sits_still (loaded_regions xs) x.0.region a) (loaded_sits m xs low loads.2 a))

pub sound_begun : (m : Start) → IsStart m → Sound (begun m)
sound_begun m begins = record { sits = λ a. loaded_sits m m.heap begins.3 begins.4 a; pins = λ k. tt; past = begins.3; floor = begins.3 }

sound_all : (p : NodeState) (es : List Entry) → Sound p → LawfulFrom p es → Sound (replay_from p es)
sound_all p [] s lawful = s
sound_all p (e ∷ es) s lawful = sound_all (after p e) es (sound p e lawful.0 s) lawful.1

-- the state that a lawful list leads to is sound
pub sound_end : (log : List Entry) → Lawful log → Sound (replay log)
sound_end [] lawful = absurd lawful
sound_end (Made m ∷ es) lawful = sound_all (begun m) es (sound_begun m lawful.0) lawful.1
sound_end (e ∷ es) lawful = absurd lawful

-- who is pinned is an actor, and reads from the floor on
pub pinned : (p : NodeState) (k s : ℕ) → Sound p → PinnedBy p k s → (0 < k) × (p.floor ≤ s)
pinned p k s sound pin =
    let ok : PinOk p.actors p.floor k (Some pin.0) = subst (PinOk p.actors p.floor k) pin.1 (sound.pins k) in
    let le : p.floor ≤ pin.0 = ok.2 in
    let above : pin.0 ≤ s = pin.2 in
    (ok.0, omega arith)
