-- The actors of a new farm.
use Rattle.std.proofs.Common.{◌≡◌, ◌⊎◌, ℕ, zero, suc, ◌+◌, ◌<◌, Bool, true, false, cond, List, [], ◌∷◌, ◌++◌, length, map, Option, Some, None, sym, refl, ap, ◌∙◌, subst, inl, inr, arith, append-nil, length-append, IsPermutation}
use Rattle.std.proofs.lemmas.List.{map-append, append_assoc, length-map}
use Rattle.std.proofs.lemmas.List.Elements.{All-pop}
use Rattle.std.proofs.lemmas.List.Sorted.{All-permutation, sum_by-IsPermutation, IsPermutation-append_comm, IsPermutation-append_right}
use Rattle.a1_base.specs.declared.place.Addr.{Addr}
use Rattle.a1_base.specs.Lists.{IsAmong}
use Rattle.object_region.specs.Occupancy.{same_addr}
use Rattle.farm_node.specs.declared.entry.Start.{Start}
use Rattle.farm_node.specs.declared.entry.Entry.{Entry}
use Rattle.farm_node.specs.declared.hold.Hold.{Hold}
use Rattle.farm_node.specs.Cell.{Cell, loaded_cell}
use Rattle.farm_node.specs.NodeState.{loaded_cells}
use Rattle.farm_node.specs.Standing.{with_heap}
use Rattle.turnstile.specs.declared.keeps.Keeps.{Ghosts}
use Rattle.turnstile.specs.Entries.{up_to}
use Rattle.turnstile.specs.declared.lock.Pass.{Pass}
use Rattle.turnstile.specs.Passes.{first_value, seen}
use Rattle.turnstile.proofs.Histories.{up_to_has}
use Rattle.snapshot_stamps.specs.declared.seat.Stamps.{Stamps}
use Rattle.snapshot_stamps.specs.declared.seat.StampSeat.{StampSeat}
use Rattle.snapshot_stamps.specs.Seats.{watch, AreSeatsOf, IsSeatOf, HaveAllLanes, began_at, lane_count}
use Rattle.snapshot_stamps.specs.declared.watch.Watch.{Watch}
use Rattle.snapshot_stamps.specs.Watched.{lanes_from, newcomer}
use Rattle.node_turns.specs.declared.standing.Standing.{Standing}
use Rattle.node_turns.specs.Turned.{IsOf}
use Rattle.node_turns.specs.Standing.{bare_start, begins_with, start_of}
use Rattle.transaction_part.specs.declared.part.Part.{Part}
use Rattle.transaction_part.specs.Running.{IsIdle}
use Rattle.transaction_part.specs.Part.{IsResting, SitsIn, log, log_in}
use Rattle.farm_commit.specs.declared.farm.Farm.{Farm}
use Rattle.farm_commit.specs.declared.actor.Actor.{Actor}
use Rattle.farm_commit.specs.Nodes.{Lock, AreNodes}
use Rattle.farm_commit.specs.Building.{Loaded, AreLoaded, AreNew}
use Rattle.farm_commit.specs.Making.{AreFresh, AreMade, HasPass, IsFresh, IsNew}
use Rattle.farm_commit.proofs.Rows.{each_weaker}

-- nodes

start_kept : (m : Start) (xs : List Loaded)
    → ((with_heap m xs).node ≡ m.node) × ((with_heap m xs).nodes ≡ m.nodes) × ((with_heap m xs).actors ≡ m.actors)
start_kept m [] = (refl, refl, refl)
start_kept m (x ∷ xs) = start_kept (record m { heap = x ∷ m.heap }) xs

-- nodes that began with their objects are those of their places
pub nodes_of : (locks : List Lock) (nodes actors stamp : ℕ) (heap : List Loaded) → AreLoaded locks nodes actors stamp heap → AreNodes locks nodes actors
nodes_of locks nodes actors stamp heap are i l at =
    let inner = (first_value l).inner.value in
    let b = are i l at in
    let kept = start_kept (bare_start inner.number inner.nodes inner.actors inner.stamp) inner.loaded.value.items in
    (kept.0 ∙ b.number, kept.1 ∙ b.nodes_are, kept.2 ∙ b.actors_are)

-- parts

unlocked : (stamp : ℕ) (xs : List Loaded) (a : Addr) (c : Cell) (h : Hold) → loaded_cells stamp xs a ≡ Some c → c.lock ≡ Some h → ⊥
unlocked stamp [] a c h there held = absurd (cc)
unlocked stamp (x ∷ xs) a c h there held = by (λ more. unlocked stamp xs a c h more held) (same_addr x.0 a) there where
  by : (loaded_cells stamp xs a ≡ Some c → ⊥) → (b : Bool) → cond b (Some (loaded_cell stamp x.1)) (loaded_cells stamp xs a) ≡ Some c → ⊥
  by more true is =
      let same : loaded_cell stamp x.1 ≡ c = cc in
      let bad : None ≡ Some h = ap (λ (z : Cell). z.lock) same ∙ held in
      absurd (cc)
  by more false is = more is

module _ {g : Ghosts Standing Entry} where
  sits_of : (l : Lock) (k : ℕ) (place : Option (Pass Standing Entry g)) → HasPass l (k ∷ []) place
      → log_in place ≡ begins_with (first_value l) ∷ [] → SitsIn l k place
  sits_of l k place (p, at, of, is) told =
      let all : seen p ≡ begins_with (first_value l) ∷ [] = sym (ap (λ (z : Option (Pass Standing Entry g)). log_in z) at) ∙ told in (
        p,
        at,
        record {
          of = of;
          number = is;
          some = subst (λ (es : List Entry). 0 < length es) (sym all) (omega arith);
          node = subst (λ (es : List Entry). IsOf l es) (sym all) (record { node = refl; nodes = refl; actors = refl });
        },
      )

-- where nothing came to pass, nobody has a transaction
pub fresh_rests : (l : Lock) (k : ℕ) (p : Part) → IsFresh l (k ∷ []) p → IsResting l k p
fresh_rests l k p f =
    let m : Start = start_of (first_value l) in
    record {
      sits = sits_of l k p.pass f.pass f.seen;
      idle = subst (λ (es : List Entry). IsIdle k es) (sym f.seen) (record {
        pin = refl;
        locks = λ u a own held. unlocked m.stamp m.heap a held.0 held.1 held.2 held.3;
      });
      none = f.none;
    }

-- seats

lane_numbers : (k n : ℕ) → length (lanes_from k n) ≡ n
lane_numbers k zero = refl
lane_numbers k (suc n) = ap suc (lane_numbers (suc k) n)

-- a seat for each lane
pub seat_count : (stamps : Stamps) (seats : List StampSeat) → AreSeatsOf stamps seats → length seats ≡ lane_count stamps
seat_count stamps seats are =
    let lanes : List ℕ = lanes_from 1 (lane_count stamps) in
    sym (length-map seats watch)
    ∙ (ap (length {A = Watch}) are.1
    ∙ (length-map lanes (λ (lane : ℕ). newcomer (began_at stamps) (lane ∷ [])) ∙ lane_numbers 1 (lane_count stamps)))

-- actors

numbers_more : (xs : List Actor) (x : Actor) (ys : List ℕ)
    → map (λ (a : Actor). a.number) (xs ++ x ∷ []) ++ ys ≡ map (λ (a : Actor). a.number) xs ++ x.number ∷ ys
numbers_more [] x ys = refl
numbers_more (y ∷ xs) x ys = ap (λ (ns : List ℕ). y.number ∷ ns) (numbers_more xs x ys)

among_last : (xs : List Actor) (x a : Actor) → IsAmong a (xs ++ x ∷ []) → IsAmong a xs ⊎ (x ≡ a)
among_last [] x a there = elim there [ inl is ↦ inr is | inr none ↦ absurd none ]
among_last (y ∷ xs) x a there = elim there [
  | inl is ↦ inl (inl is)
  | inr more ↦ elim (among_last xs x a more) [ inl front ↦ inl (inr front) | inr is ↦ inr is ]
]

among_number : (xs : List Actor) (a : Actor) → IsAmong a xs → IsAmong a.number (map (λ (x : Actor). x.number) xs)
among_number [] a there = absurd there
among_number (x ∷ xs) a there =
    elim there [ inl is ↦ inl (ap (λ (z : Actor). z.number) is) | inr more ↦ inr (among_number xs a more) ]

-- the last seat that is left, at the end of those that were given away
seat_moved : (stamps : Stamps) (given left : List StampSeat) (s : StampSeat) → HaveAllLanes stamps (given ++ (left ++ s ∷ []))
    → HaveAllLanes stamps ((given ++ s ∷ []) ++ left)
seat_moved stamps given left s (of, lanes) =
    let swapped : IsPermutation (given ++ (left ++ s ∷ [])) (given ++ s ∷ left) =
    IsPermutation-append_right given (left ++ s ∷ []) (s ∷ left) (IsPermutation-append_comm left (s ∷ [])) in
    let moved : IsPermutation (given ++ (left ++ s ∷ [])) ((given ++ s ∷ []) ++ left) =
    subst (λ (ss : List StampSeat). IsPermutation (given ++ (left ++ s ∷ [])) ss) (sym (append_assoc given (s ∷ []) left)) swapped in
    (All-permutation (IsSeatOf stamps) _ _ moved of, sum_by-IsPermutation (λ (z : StampSeat). length (watch z).lanes) _ _ moved ∙ lanes)

module _ (locks : List Lock) (stamps : Stamps) (count : ℕ) where
  -- one actor more, with the last seat that was left
  pub made_more : (seats left : List StampSeat) (all later : List Actor) (x : Actor) → seats ≡ left ++ x.seat ∷ [] → later ≡ all ++ x ∷ []
      → x.number ≡ length left + 1 → x.begun ≡ 0 → x.reads.items ≡ [] → AreFresh locks (x.number ∷ []) x.parts.items
      → AreMade locks stamps count seats all → AreMade locks stamps count left later
  made_more seats left all later x popped pushed is begun reads parts old =
      subst (λ (xs : List Actor). AreMade locks stamps count left xs) (sym pushed) (record {
        numbers =
            numbers_more all x (up_to (length left))
            ∙ (ap (λ (k : ℕ). map number all ++ k ∷ up_to (length left)) number_is
            ∙ (ap (λ (k : ℕ). map number all ++ up_to k) (sym length_is) ∙ old.numbers));
        each = λ a there. elim (among_last all x a there) [
          | inl front ↦ old.each a front
          | inr same ↦ subst (λ (z : Actor). IsNew locks stamps z) same (record { seat = mine; begun = begun; reads = reads; parts = parts })
        ];
        lanes = subst (λ (ss : List StampSeat). HaveAllLanes stamps (ss ++ left)) (sym (map-append seat all (x ∷ [])))
            (seat_moved stamps (map seat all) left x.seat lanes);
      }) where
        number : Actor → ℕ
        number a = a.number

        seat : Actor → StampSeat
        seat a = a.seat

        number_is : x.number ≡ suc (length left)
        number_is = omega (arith, is)

        length_is : length seats ≡ suc (length left)
        length_is = let e : length seats ≡ length (left ++ x.seat ∷ []) = ap (length {A = StampSeat}) popped in
            let f : length (left ++ x.seat ∷ []) ≡ length left + 1 = length-append left (x.seat ∷ []) in omega arith

        lanes : HaveAllLanes stamps (map seat all ++ (left ++ x.seat ∷ []))
        lanes = subst (λ (ss : List StampSeat). HaveAllLanes stamps (map seat all ++ ss)) popped old.lanes

        mine : IsSeatOf stamps x.seat
        mine = (All-pop (IsSeatOf stamps) (map seat all ++ (left ++ x.seat ∷ [])) (map seat all ++ left) (Some x.seat)
            (sym (append_assoc (map seat all) left (x.seat ∷ []))) lanes.0).1

-- all actors of the farm are made
pub all_new : (farm : Farm) (all : List Actor) → AreMade farm.locks.items farm.stamps farm.actors [] all → AreNew farm all
all_new farm all made = record {
  numbers = numbers;
  each = λ a there. let n = made.each a there in (
    record {
      seat = n.seat;
      number = up_to_has a.number farm.actors (subst (IsAmong a.number) numbers (among_number all a there));
      parts = each_weaker _ (λ _ l p. IsResting l a.number p) farm.locks.items a.parts.items n.parts
          (λ i l p low f. fresh_rests l a.number p f);
      reads = n.reads;
    },
    n.begun,
  );
  seen = λ a there. each_weaker _ (λ _ l p. log p ≡ begins_with (first_value l) ∷ []) farm.locks.items a.parts.items
      (made.each a there).parts (λ i l p low f. f.seen);
  lanes = subst (λ (ss : List StampSeat). HaveAllLanes farm.stamps ss) (append-nil (map (λ (a : Actor). a.seat) all)) made.lanes;
} where
  numbers : map (λ (a : Actor). a.number) all ≡ up_to farm.actors
  numbers = sym (append-nil (map (λ (a : Actor). a.number) all)) ∙ made.numbers
