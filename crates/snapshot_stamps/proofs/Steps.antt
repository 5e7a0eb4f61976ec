-- Each step on the clock keeps its rule.
use Rattle.std.proofs.Common.{sum_by, ◌≡◌, ℕ, ◌+◌, ◌%◌, ◌^◌, ◌<◌, ◌≤◌, min, List, [], ◌∷◌, ◌++◌, length, length-append, append-nil, get_or, set, sym, refl, ap, ◌∙◌, subst, arith}
use mathlib.Core.Option.{some}
use mathlib.Core.Logic.{dite}
use native.Mathlib.Decide.{dec_lt}
use lib.ListN.{get_elem?}
use Rattle.atomic_table.specs.Table.{State, Me, opening, keeps, Allows, Splits, Joins}
use Rattle.atomic_table.proofs.Lists.{set_else}
use Rattle.a1_base.proofs.Sums.{sum_set, sum_has, sum_more, sum_le}
use Rattle.snapshot_stamps.specs.declared.watch.Watch.{Watch}
use Rattle.snapshot_stamps.specs.Watched.{lanes_from, newcomer, resting, having_drawn, noted, first_lane, other_lanes, joined, meeting, spent}
use Rattle.a1_base.specs.declared.limits.TheConstants.{LAST_STAMP}
use Rattle.snapshot_stamps.specs.Plays.{LoadsClock, Raises}
use Rattle.snapshot_stamps.specs.Clock.{times, once_between, WatchFits, Clock}
use Rattle.a1_base.proofs.Views.{each_set, each_end, each_alone}
use Rattle.snapshot_stamps.proofs.Sums.{sum_same}
use Rattle.snapshot_stamps.proofs.Counts.{times_append, between_next, no_between, lanes_length, lanes_times}

abbrev pub Mine : Type 0
Mine = Me (Unit {0}) Watch

pub no_length : (l : List ℕ) → length l ≡ 0 → l ≡ []
no_length [] e = refl
no_length (x ∷ xs) e = absurd (omega arith)

some_length : (l : List ℕ) → 0 < length l → l ≡ [] → ⊥
some_length l some_lane none = let e : length l ≡ 0 = ap (λ (z : List ℕ). length z) none in omega arith

module _ (lanes from : ℕ) where
  abbrev Kept : State (Unit {0}) Watch → Type 0
  Kept = Clock lanes from

  module _ (s : State (Unit {0}) Watch) (k : Kept s) where
    clock_is : get_or s.words 0 0 ≡ k.clock
    clock_is = ap (λ (z : List ℕ). get_or z 0 0) k.words

    -- the clock is far from the end of its word
    far : k.clock < LAST_STAMP + 2 ^ 32
    far =
        let le = sum_le (λ (v : Watch). v.over) (λ (v : Watch). length v.lanes) s.views (λ i v e. (k.fits i v e).over_lanes) in
        let a = k.bounded in let b = k.lanes_out in let c = k.few in omega arith

    most : (id : ℕ) (v : Watch) → get_elem? s.views id ≡ some v → v.additions ≤ k.clock
    most id v at = let has = sum_has (λ (z : Watch). z.additions) s.views id v at in let c = k.counted in omega arith

    -- a step of the view id, by which the clock gains `more`
    module _ (id : ℕ) (v w : Watch) (more : ℕ) (at : get_elem? s.views id ≡ some v) where
      moved : (next : ℕ) → next ≡ k.clock + more → w.additions ≡ v.additions + more → w.lanes ≡ v.lanes
          → k.clock + more + v.over ≤ LAST_STAMP + sum_by (λ (z : Watch). z.over) s.views + w.over
          → ((x : ℕ) → times x w.drawn + once_between from (min k.clock LAST_STAMP) x ≡ times x v.drawn + once_between from (min (k.clock + more) LAST_STAMP) x)
          → WatchFits from (k.clock + more) w
          → Kept record { words = set s.words 0 next; homes = s.homes; views = set s.views id w }
      moved next is added laned over drew fit =
          let added' = sum_set (λ (z : Watch). z.additions) s.views id v w at in
          let over' = sum_set (λ (z : Watch). z.over) s.views id v w at in
          record {
            clock = k.clock + more;
            words = ap (λ (z : List ℕ). set z 0 next) k.words ∙ ap (λ (z : ℕ). z ∷ []) is;
            counted = let c = k.counted in omega arith;
            begun = k.begun;
            drawn = λ x. let t = sum_set (λ (z : Watch). times x z.drawn) s.views id v w at in let c = k.drawn x in let d = drew x in omega arith;
            few = k.few;
            lanes_out = sum_same (λ (z : Watch). length z.lanes) s.views id v w at (ap (λ (z : List ℕ). length z) laned) ∙ k.lanes_out;
            laned = λ x. sum_same (λ (z : Watch). times x z.lanes) s.views id v w at (ap (λ (z : List ℕ). times x z) laned) ∙ k.laned x;
            bounded = omega arith;
            fits = each_set (WatchFits from (k.clock + more)) s.views id w
                (λ j u ne e. let o = k.fits j u e in record {
                  known = (let r = o.known in omega arith);
                  within = o.within;
                  over_lanes = o.over_lanes;
                  over_known = o.over_known;
                  no_lane = o.no_lane;
                  pins = o.pins;
                })
                fit;
          }

  pub reads : (slots id : ℕ) (me : Mine) → Allows Kept slots id me 0 (λ n. n) (λ n m'. LoadsClock n me.0 m'.0 × (m'.1 ≡ me.1))
  reads slots id me s k deep at small =
      let v : Watch = me.0 in
      let n : ℕ = get_or s.words 0 0 in
      let is : n ≡ k.clock = clock_is s k in
      let w : Watch = record v { known = min n LAST_STAMP; looks = v.looks + 1 } in
      let mine = k.fits id v at in
      let known = mine.known in
      let end = far s k in
      let added = most s k id v at in
      let bounded = k.bounded in (
        w,
        keeps,
        tt,
        moved s k id v w 0 at n (omega arith) (omega arith) refl (omega arith)
            (λ x. ap (λ (z : ℕ). times x v.drawn + once_between from (min z LAST_STAMP) x) (omega arith))
            record {
              known = omega arith;
              within = omega arith;
              over_lanes = mine.over_lanes;
              over_known = λ some_over. let t = mine.over_known some_over in omega arith;
              no_lane = mine.no_lane;
              pins = mine.pins;
            },
        (((omega arith, refl), (mine.within, omega arith, omega arith)), refl),
      )

  -- one is added below the last stamp
  module _ (s : State (Unit {0}) Watch) (k : Kept s) (id : ℕ) (v : Watch) (at : get_elem? s.views id ≡ some v) (some_lane : 0 < length v.lanes) (less : v.known < LAST_STAMP) where
    draws : k.clock < LAST_STAMP → (next : ℕ) → next ≡ k.clock + 1 → (n : ℕ) → n ≡ k.clock
        → Kept record { words = set s.words 0 next; homes = s.homes; views = set s.views id (having_drawn (n + 1) v) }
    draws lt next is n here =
        let mine = k.fits id v at in
        let begun = k.begun in let counted = k.counted in let bounded = k.bounded in
        moved s k id v (having_drawn (n + 1) v) 1 at next is refl refl (omega arith)
        (λ x.
        let a = times_append x v.drawn ((n + 1) ∷ []) in
        let b = between_next from k.clock x (omega arith) in
        let c : once_between from (min k.clock LAST_STAMP) x ≡ once_between from k.clock x = ap (λ (z : ℕ). once_between from z x) (omega arith) in
        let d : once_between from (min (k.clock + 1) LAST_STAMP) x ≡ once_between from (k.clock + 1) x = ap (λ (z : ℕ). once_between from z x) (omega arith) in
        let e : times x ((n + 1) ∷ []) ≡ times x ((k.clock + 1) ∷ []) = ap (λ (z : ℕ). times x ((z + 1) ∷ [])) here in
        omega arith)
        record {
          known = omega arith;
          within = omega arith;
          over_lanes = mine.over_lanes;
          over_known = λ some_over. let t = mine.over_known some_over in omega arith;
          no_lane = λ none. absurd (some_length v.lanes some_lane none);
          pins = mine.pins;
        }

    -- one is added at the last stamp or above
    passes : LAST_STAMP ≤ k.clock → (next : ℕ) → next ≡ k.clock + 1
        → Kept record { words = set s.words 0 next; homes = s.homes; views = set s.views id (record v { known = LAST_STAMP; additions = v.additions + 1; over = v.over + 1 }) }
    passes ge next is =
        let mine = k.fits id v at in
        let bounded = k.bounded in
        let none_yet : v.over ≡ 0 = dite (dec_lt 0 v.over) (λ (some_over : 0 < v.over). let t = mine.over_known some_over in absurd (omega arith)) (λ no. omega arith) in
        moved s k id v (record v { known = LAST_STAMP; additions = v.additions + 1; over = v.over + 1 }) 1 at next is refl refl (omega arith)
        (λ x. ap (λ (z : ℕ). times x v.drawn + once_between from z x) (omega arith))
        record {
          known = omega arith;
          within = omega arith;
          over_lanes = omega arith;
          over_known = λ some_over. refl;
          no_lane = λ none. absurd (some_length v.lanes some_lane none);
          pins = mine.pins;
        }

  pub raises : (slots id : ℕ) (me : Mine) → 0 < length me.0.lanes → me.0.known < LAST_STAMP
      → Allows Kept slots id me 0 (λ n. (n + 1) % 2 ^ 64) (λ n m'. Raises n me.0 m'.0 × (m'.1 ≡ me.1))
  raises slots id me some_lane less s k deep at small =
      let v : Watch = me.0 in
      let n : ℕ = get_or s.words 0 0 in
      let is : n ≡ k.clock = clock_is s k in
      let mine = k.fits id v at in
      let known = mine.known in
      let end = far s k in
      let added = most s k id v at in
      let next : (n + 1) % 2 ^ 64 ≡ k.clock + 1 = omega arith in
      dite (dec_lt n LAST_STAMP)
      (λ (lt : n < LAST_STAMP). (
        having_drawn (n + 1) v,
        keeps,
        tt,
        draws s k id v at some_lane less (omega arith) ((n + 1) % 2 ^ 64) next n is,
        (((omega arith, (λ _. refl), (λ ge. absurd (omega arith))), (mine.within, omega arith, omega arith)), refl),
      ))
      (λ ge. (
        record v { known = LAST_STAMP; additions = v.additions + 1; over = v.over + 1 },
        keeps,
        tt,
        passes s k id v at some_lane less (omega arith) ((n + 1) % 2 ^ 64) next,
        (((omega arith, (λ lt. absurd (ge lt)), (λ _. refl)), (mine.within, omega arith, omega arith)), refl),
      ))

  -- what the rule says of one that has made no step
  abbrev fresh : ℕ → ℕ → List ℕ → Watch
  fresh known floor lanes = record (newcomer known lanes) { pins = resting floor }

  fresh_fits : (clock known floor : ℕ) (lanes : List ℕ) → known ≤ clock → known ≤ LAST_STAMP → floor ≤ from → WatchFits from clock (fresh known floor lanes)
  fresh_fits clock known floor lanes low within bound = record {
    known = low;
    within = within;
    over_lanes = omega arith;
    over_known = λ some_over. absurd (omega arith);
    no_lane = λ none. (refl, refl);
    pins = record { floor = bound; rests = (refl, refl, refl) };
  }

  -- one view is cut in two, and what counts is shared out
  module _ (id : ℕ) (v left right : Watch) where
    record Shares : Type 0 where
      additions : left.additions + right.additions ≡ v.additions
      drawn : (x : ℕ) → times x left.drawn + times x right.drawn ≡ times x v.drawn
      lanes_out : length left.lanes + length right.lanes ≡ length v.lanes
      laned : (x : ℕ) → times x left.lanes + times x right.lanes ≡ times x v.lanes
      over : left.over + right.over ≡ v.over

    cuts : Shares → ((clock : ℕ) → WatchFits from clock v → WatchFits from clock left × WatchFits from clock right) → Splits Kept id v left right
    cuts shares fit s k at =
        let views : List Watch = set s.views id left in
        let sum : (f : Watch → ℕ) → f left + f right ≡ f v → sum_by f (views ++ right ∷ []) ≡ sum_by f s.views
        = λ f e. let a = sum_set f s.views id v left at in let b = sum_more f views right in omega arith in
        let mine = fit k.clock (k.fits id v at) in
        let a = sum (λ z. z.additions) shares.additions in
        let o = sum (λ z. z.over) shares.over in
        record {
          clock = k.clock;
          words = k.words;
          counted = let c = k.counted in omega arith;
          begun = k.begun;
          drawn = λ x. sum (λ z. times x z.drawn) (shares.drawn x) ∙ k.drawn x;
          few = k.few;
          lanes_out = sum (λ z. length z.lanes) shares.lanes_out ∙ k.lanes_out;
          laned = λ x. sum (λ z. times x z.lanes) (shares.laned x) ∙ k.laned x;
          bounded = let c = k.bounded in omega arith;
          fits = each_end (WatchFits from k.clock) views right (each_set (WatchFits from k.clock) s.views id left (λ j u ne e. k.fits j u e) mine.0) mine.1;
        }

  pub notes : (id : ℕ) (v : Watch) → Splits Kept id v v (noted v)
  notes id v = cuts id v v (noted v)
      record { additions = omega arith; drawn = λ x. omega arith; lanes_out = omega arith; laned = λ x. omega arith; over = omega arith }
      (λ clock f. (f, fresh_fits clock _ _ _ f.known f.within f.pins.floor))

  newcomers_cut : (id : ℕ) (l : List ℕ) → 0 < length l → let v = newcomer from l in Splits Kept id v (first_lane v) (other_lanes v)
  newcomers_cut id [] some_lane = absurd (omega arith)
  newcomers_cut id (k ∷ ks) some_lane =
      let v : Watch = newcomer from (k ∷ ks) in
      cuts id v (first_lane v) (other_lanes v)
      record { additions = refl; drawn = λ x. refl; lanes_out = omega arith; laned = λ x. sym (times_append x (k ∷ []) ks); over = refl }
      (λ clock f. (fresh_fits clock _ _ _ f.known f.within f.pins.floor, fresh_fits clock _ _ _ f.known f.within f.pins.floor))

  -- of lanes that have made no step the first is kept
  pub lanes_cut : (id : ℕ) (me : Mine) → me ≡ (newcomer from me.0.lanes, []) → 0 < length me.0.lanes → Splits Kept id me.0 (first_lane me.0) (other_lanes me.0)
  lanes_cut id me is some_lane =
      let e : me.0 ≡ newcomer from me.0.lanes = ap (λ (z : Mine). z.0) is in
      subst (λ (z : Watch). Splits Kept id z (first_lane z) (other_lanes z)) (sym e) (newcomers_cut id me.0.lanes some_lane)

  pub joins : (id other : ℕ) (v w : Watch) → Joins Kept id v other w (joined v w) spent
  joins id other v w s k at ne at' =
      let both : Watch = joined v w in
      let a = k.fits id v at in
      let there : get_elem? s.views other ≡ some w = sym (set_else s.views id other both ne) ∙ at' in
      let b = k.fits other w there in
      let views : List Watch = set s.views id both in
      let sum : (f : Watch → ℕ) → f both ≡ f v + f w → f spent ≡ 0 → sum_by f (set views other spent) ≡ sum_by f s.views
      = λ f e n. let x = sum_set f s.views id v both at in let y = sum_set f views other w spent at' in omega arith in
      let p = sum (λ z. z.additions) refl refl in
      let o = sum (λ z. z.over) refl refl in
      let l : length (v.lanes ++ w.lanes) ≡ length v.lanes + length w.lanes = length-append v.lanes w.lanes in
      let r = a.known in let r' = b.known in let t = a.within in let t' = b.within in let f = a.pins.floor in let f' = b.pins.floor in let y = a.over_lanes in let y' = b.over_lanes in
      record {
        clock = k.clock;
        words = k.words;
        counted = let c = k.counted in omega arith;
        begun = k.begun;
        drawn = λ x. sum (λ z. times x z.drawn) (times_append x v.drawn w.drawn) refl ∙ k.drawn x;
        few = k.few;
        lanes_out = sum (λ z. length z.lanes) l refl ∙ k.lanes_out;
        laned = λ x. sum (λ z. times x z.lanes) (times_append x v.lanes w.lanes) refl ∙ k.laned x;
        bounded = let c = k.bounded in omega arith;
        fits = each_set (WatchFits from k.clock) views other spent
            (λ j u ne e. each_set (WatchFits from k.clock) s.views id both (λ j u ne e. k.fits j u e)
            record {
              known = omega arith;
              within = omega arith;
              over_lanes = omega arith;
              over_known = λ some_over. dite (dec_lt 0 v.over)
                  (λ (yes_ : 0 < v.over). let z = a.over_known yes_ in omega arith)
                  (λ no_. let z = b.over_known (omega arith) in omega arith);
              no_lane = λ none.
                  let e : length (v.lanes ++ w.lanes) ≡ 0 = ap (λ (z : List ℕ). length z) none in
                  let x = a.no_lane (no_length v.lanes (omega arith)) in
                  let z = b.no_lane (no_length w.lanes (omega arith)) in
                  ((let x' = x.0 in let z' = z.0 in omega arith), ap (λ (q : List ℕ). q ++ w.drawn) x.1 ∙ z.1);
              pins = record { floor = omega arith; rests = a.pins.rests };
            } j u e)
            (fresh_fits k.clock _ _ _ (omega arith) (omega arith) (omega arith));
      }

  pub starts : lanes < 2 ^ 32 → from ≤ LAST_STAMP → Kept (opening (from ∷ []) [] (newcomer from (lanes_from 1 lanes)))
  starts few begun =
      let l = lanes_length 1 lanes in
      record {
        clock = from;
        words = refl;
        counted = omega arith;
        begun = begun;
        drawn = λ x. sym (no_between from (min from LAST_STAMP) x (omega arith));
        few = few;
        lanes_out = omega arith;
        laned = λ x. let t = lanes_times 0 lanes x in let e : once_between 0 (0 + lanes) x ≡ once_between 0 lanes x = ap (λ (z : ℕ). once_between 0 z x) (omega arith) in omega arith;
        bounded = omega arith;
        fits = each_alone (WatchFits from from) (newcomer from (lanes_from 1 lanes)) (fresh_fits from _ _ _ (omega arith) begun (omega arith));
      }

-- what a note gives is knowledge alone
pub met : (v note : Watch) → noted note ≡ note → joined v note ≡ meeting v note
met v note bare =
    subst (λ (z : Watch). joined v z ≡ meeting v z) bare
    (λ i. record (meeting v (noted note)) { drawn = append-nil v.drawn i; additions = plus_zero v.additions i; lanes = append-nil v.lanes i; over = plus_zero v.over i }) where
      plus_zero : (n : ℕ) → n + 0 ≡ n
      plus_zero n = omega arith
