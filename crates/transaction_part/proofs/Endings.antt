-- One write after another, and one lock after another, until the actor has none.
use Rattle.std.proofs.Common.{◌≡◌, ◌≢◌, ℕ, ◌+◌, ◌<◌, ◌≤◌, cond, Bool, true, false, List, [], ◌∷◌, ◌++◌, Some, None, length, slice_get, sym, refl, ap, ◌∙◌, subst, ⊎_elim, arith}
use Rattle.std.proofs.lemmas.Bool.{eq-eqb}
use Rattle.std.proofs.lemmas.Option.{same_Some, slice_get_within}
use mathlib.Core.Logic.{dite}
use native.Mathlib.Decide.{ℕ_discrete}
use Rattle.a1_base.specs.declared.place.Addr.{Addr}
use Rattle.a1_base.specs.declared.place.TxnId.{TxnId}
use Rattle.a1_base.specs.Lists.{BeginsWith, IsAmong}
use Rattle.object_region.specs.Occupancy.{same_addr}
use Rattle.farm_node.specs.declared.entry.Entry.{Entry}
use Rattle.farm_node.specs.declared.entry.Entry.TheVariants.{Shut, Put, Unlock}
use Rattle.farm_node.specs.NodeState.{NodeState, HeldBy, Lawful, replay}
use Rattle.farm_node.specs.State.{holds_there}
use Rattle.farm_node.specs.Story.{Story, with_put}
use Rattle.farm_node.proofs.Addresses.{addr_eq, same_self}
use Rattle.farm_node.proofs.Holders.{holds_iff}
use Rattle.node_turns.specs.Turned.{GoesOn}
use Rattle.write_set.specs.declared.set.Write.{Write}
use Rattle.write_set.specs.Writes.{AreApart, Lacks}
use Rattle.write_set.proofs.Lists.{lacks_at}
use Rattle.transaction_part.specs.Part.{IsWritten}
use Rattle.transaction_part.specs.Running.{Runs, IsIdle, HoldsBelow}
use Rattle.transaction_part.specs.Stories.{own_story, SameStory, put_by, PutsJust}
use Rattle.transaction_part.proofs.Going.{runs_on, runs_there, holds_on, holds_there as holds_aside, state_there, held_or}
use Rattle.transaction_part.proofs.Telling.{begins_then, begins_on, begins_same, story_on, story_there, same_then}
use Rattle.transaction_part.proofs.Lists.{Before, before_none, before_next, before_all, place_of, among_at}

-- the address is written at a place from n on
abbrev pub WrittenFrom : List Write → ℕ → Addr → Type 0
WrittenFrom ws n a = (i : ℕ) × (x : Write) × (n ≤ i) × (slice_get ws i ≡ Some x) × (x.at ≡ a)

-- all writes are those from 0 on
runs_first : (t : TxnId) (r : ℕ) (ws : List Write) (log : List Entry) → Runs t r (IsWritten ws) log → Runs t r (WrittenFrom ws 0) log
runs_first t r ws log runs = record {
  pinned = runs.pinned;
  only = λ u a own held.
      let o = runs.only u a own held in
      let p = place_of ws o.1.0 o.1.1 in
      (o.0, (p.0, o.1.0, (let low : 0 ≤ p.0 = omega arith in low), p.1, o.1.2));
}

-- and behind the last there is none
runs_last : (t : TxnId) (r : ℕ) (ws : List Write) (n : ℕ) (log : List Entry) → length ws ≤ n → Runs t r (WrittenFrom ws n) log
    → Runs t r (λ a. ⊥) log
runs_last t r ws n log past runs = record {
  pinned = runs.pinned;
  only = λ u a own held.
      let o = runs.only u a own held in
      let within : o.1.0 < length ws = slice_get_within ws o.1.0 o.1.1 o.1.3 in
      let from : n ≤ o.1.0 = o.1.2 in
      absurd (omega arith);
}

-- from n on, and not at the place n
behind : (ws : List Write) (n : ℕ) (x : Write) (a : Addr) → slice_get ws n ≡ Some x → WrittenFrom ws n a → (x.at ≡ a → ⊥)
    → WrittenFrom ws (n + 1) a
behind ws n x a stands p other = dite (ℕ_discrete p.0 n)
    (λ (e : p.0 ≡ n). absurd (other (ap (λ (y : Write). y.at) (same_Some x p.1 (sym stands ∙ subst (λ (i : ℕ). slice_get ws i ≡ Some p.1) e p.3)) ∙ p.4)))
    (λ (ne : p.0 ≢ n). let from : n ≤ p.0 = p.2 in let more : n + 1 ≤ p.0 = omega arith in (p.0, p.1, more, p.3, p.4))

-- giving locks up

-- the locks of the writes before n were given up
pub record FreesTo (t : TxnId) (r : ℕ) (ws : List Write) (first : List Entry) (n : ℕ) (now : List Entry) : Type 0 where
  pub runs : Runs t r (WrittenFrom ws n) now
  pub quiet : SameStory t.actor first now
  pub grown : BeginsWith now first

pub frees_first : (t : TxnId) (r : ℕ) (ws : List Write) (first : List Entry) → Runs t r (IsWritten ws) first → FreesTo t r ws first 0 first
frees_first t r ws first runs = record { runs = runs_first t r ws first runs; quiet = λ a. refl; grown = begins_same first }

pub frees_last : (t : TxnId) (r : ℕ) (ws : List Write) (first : List Entry) (n : ℕ) (now : List Entry) → length ws ≤ n
    → FreesTo t r ws first n now → Runs t r (λ a. ⊥) now
frees_last t r ws first n now past f = runs_last t r ws n now past f.runs

module _ (t : TxnId) (r : ℕ) (ws : List Write) (first : List Entry) (n : ℕ) (x : Write) (stands : slice_get ws n ≡ Some x) where
  frees_on : (old mid : List Entry) → Lawful old → Lawful mid → GoesOn t.actor old mid → FreesTo t r ws first n old
      → FreesTo t r ws first n mid
  frees_on old mid begins ends g f = record {
    runs = runs_on t r (WrittenFrom ws n) old mid begins ends g f.runs;
    quiet = same_then t.actor first old mid f.quiet (story_on t.actor old mid g);
    grown = begins_then first old mid f.grown (begins_on t.actor old mid g);
  }

  frees_one : (mid new : List Entry) → Lawful mid → Lawful new → new ≡ mid ++ Unlock t x.at ∷ [] → FreesTo t r ws first n mid
      → FreesTo t r ws first (n + 1) new
  frees_one mid new begins ends is f = record {
    runs = runs_there mid (Unlock t x.at) new begins ends is t r (WrittenFrom ws n) (WrittenFrom ws (n + 1)) tt
        (λ u a own takes. absurd takes) (λ a from kept. behind ws n x a stands from (λ same. kept (refl, same))) f.runs;
    quiet = same_then t.actor first mid new f.quiet
        (λ a. story_there t.actor a mid (Unlock t x.at) new refl is);
    grown = begins_then first mid new f.grown (Unlock t x.at ∷ [], is);
  }

  frees_none : (mid : List Entry) → holds_there t ((replay mid).cells x.at) ≡ false → FreesTo t r ws first n mid
      → FreesTo t r ws first (n + 1) mid
  frees_none mid free f = record {
    runs = record {
      pinned = f.runs.pinned;
      only = λ u a own held.
          let o = f.runs.only u a own held in (
            o.0,
            behind ws n x a stands o.1 (λ same.
                let mine : HeldBy (replay mid) t x.at = subst (λ (b : Addr). HeldBy (replay mid) t b) (sym same)
                (subst (λ (v : TxnId). HeldBy (replay mid) v a) o.0 held) in
                let yes : holds_there t ((replay mid).cells x.at) ≡ true = (holds_iff (replay mid) t x.at).1 mine in
                absurd (cc)),
          );
    };
    quiet = f.quiet;
    grown = f.grown;
  }

  -- the lock of the next write is given up, where it is there
  pub frees_next : (old mid new : List Entry) → Lawful old → Lawful mid → Lawful new → GoesOn t.actor old mid
      → new ≡ cond (holds_there t ((replay mid).cells x.at)) (mid ++ Unlock t x.at ∷ []) mid → FreesTo t r ws first n old
      → FreesTo t r ws first (n + 1) new
  frees_next old mid new begins on ends g is f = by (holds_there t ((replay mid).cells x.at)) refl is where
    by : (b : Bool) → holds_there t ((replay mid).cells x.at) ≡ b → new ≡ cond b (mid ++ Unlock t x.at ∷ []) mid
        → FreesTo t r ws first (n + 1) new
    by true e is = frees_one mid new on ends is (frees_on old mid begins on g f)
    by false e is = subst (FreesTo t r ws first (n + 1)) (sym is) (frees_none mid e (frees_on old mid begins on g f))

-- installing

ne_addr : (b a : Addr) → b ≢ a → same_addr b a ≡ false
ne_addr b a ne = by (same_addr b a) refl where
  by : (g : Bool) → same_addr b a ≡ g → g ≡ false
  by true is = absurd (ne (addr_eq b a is))
  by false is = refl

-- one put more, of what was given at first
abbrev pub WasPut : TxnId → ℕ → List Entry → List Entry → Write → Type 0
WasPut t w first now x = (own_story t.actor x.at now).puts
    ≡ put_by t w (own_story t.actor x.at first) ∷ (own_story t.actor x.at first).puts

-- the writes before n were put, those from n on wait with their locks
pub record PutsTo (t : TxnId) (r w : ℕ) (ws : List Write) (first : List Entry) (n : ℕ) (now : List Entry) : Type 0 where
  pub runs : Runs t r (WrittenFrom ws n) now
  pub holds : (i : ℕ) (x : Write) → n ≤ i → slice_get ws i ≡ Some x → HoldsBelow t x.at w (replay now)
  pub puts : Before (WasPut t w first now) ws n
  pub waits : (i : ℕ) (x : Write) → n ≤ i → slice_get ws i ≡ Some x → own_story t.actor x.at now ≡ own_story t.actor x.at first
  pub others : (a : Addr) → Lacks ws a → own_story t.actor a now ≡ own_story t.actor a first
  pub grown : BeginsWith now first

pub puts_first : (t : TxnId) (r w : ℕ) (ws : List Write) (first : List Entry) → Runs t r (IsWritten ws) first
    → ((x : Write) → IsAmong x ws → HoldsBelow t x.at w (replay first)) → PutsTo t r w ws first 0 first
puts_first t r w ws first runs holds = record {
  runs = runs_first t r ws first runs;
  holds = λ i x from stands. holds x (among_at ws i x stands);
  puts = before_none (WasPut t w first first) ws;
  waits = λ i x from stands. refl;
  others = λ a lacks. refl;
  grown = begins_same first;
}

module _ (t : TxnId) (r w : ℕ) (ws : List Write) (first : List Entry) (n : ℕ) (now : List Entry) (past : length ws ≤ n) (p : PutsTo t r w ws first n now) where
  pub runs_bare : Runs t r (λ a. ⊥) now
  runs_bare = runs_last t r ws n now past p.runs

  pub puts_just : PutsJust t w ws first now
  puts_just = record {
    puts = before_all (WasPut t w first now) ws n past p.puts;
    others = p.others;
  }

module _ (t : TxnId) (r w : ℕ) (ws : List Write) (first : List Entry) (n : ℕ) (x : Write) (stands : slice_get ws n ≡ Some x) (apart : AreApart ws) where
  puts_on : (old mid : List Entry) → Lawful old → Lawful mid → GoesOn t.actor old mid → PutsTo t r w ws first n old
      → PutsTo t r w ws first n mid
  puts_on old mid begins ends g p =
      let same : SameStory t.actor old mid = story_on t.actor old mid g in
      record {
        runs = runs_on t r (WrittenFrom ws n) old mid begins ends g p.runs;
        holds = λ i y from at. holds_on t.actor old mid begins ends g t y.at w refl (p.holds i y from at);
        puts = λ i y below at. ap (λ (h : Story). h.puts) (same y.at) ∙ p.puts i y below at;
        waits = λ i y from at. same y.at ∙ p.waits i y from at;
        others = λ a lacks. same a ∙ p.others a lacks;
        grown = begins_then first old mid p.grown (begins_on t.actor old mid g);
      }

  module _ (mid new : List Entry) (begins : Lawful mid) (ends : Lawful new) (is : new ≡ mid ++ Put t x.at w ∷ []) (p : PutsTo t r w ws first n mid) where
    story_aside : (a : Addr) → x.at ≢ a → own_story t.actor a new ≡ own_story t.actor a mid
    story_aside a ne = story_there t.actor a mid (Put t x.at w) new refl is
        ∙ ap (λ (g : Bool). cond g (with_put t w (own_story t.actor a mid)) (own_story t.actor a mid)) (ne_addr x.at a ne)

    story_here : WasPut t w first new x
    story_here = ap (λ (h : Story). h.puts) (story_there t.actor x.at mid (Put t x.at w) new refl is
        ∙ ap (λ (g : Bool). cond g (with_put t w (own_story t.actor x.at mid)) (own_story t.actor x.at mid)) (same_self x.at))
        ∙ ap (λ (h : Story). put_by t w h ∷ h.puts) (p.waits n x (let low : n ≤ n = omega arith in low) stands)

    elsewhere : (i : ℕ) (y : Write) → i ≢ n → slice_get ws i ≡ Some y → x.at ≢ y.at
    elsewhere i y ne at same = ne (sym (apart n i x y stands at same))

    puts_one : PutsTo t r w ws first (n + 1) new
    puts_one = record {
      runs = runs_there mid (Put t x.at w) new begins ends is t r (WrittenFrom ws n) (WrittenFrom ws (n + 1)) tt
          (λ u a own takes. absurd takes) (λ a from kept. behind ws n x a stands from (λ same. kept (refl, same))) p.runs;
      holds = λ i y from at.
          let ne : i ≢ n = omega arith in
          let low : n ≤ i = omega arith in
          holds_aside mid (Put t x.at w) new begins ends is t y.at w (elsewhere i y ne at) (p.holds i y low at);
      puts = before_next (WasPut t w first new) ws n x stands story_here (λ i y below at.
          let ne : i ≢ n = omega arith in
          ap (λ (h : Story). h.puts) (story_aside y.at (elsewhere i y ne at)) ∙ p.puts i y below at);
      waits = λ i y from at.
          let ne : i ≢ n = omega arith in
          let low : n ≤ i = omega arith in
          story_aside y.at (elsewhere i y ne at) ∙ p.waits i y low at;
      others = λ a lacks. story_aside a (lacks_at ws a n x lacks stands) ∙ p.others a lacks;
      grown = begins_then first mid new p.grown (Put t x.at w ∷ [], is);
    }

  module _ (old mid : List Entry) (begins : Lawful old) (on : Lawful mid) (g : GoesOn t.actor old mid) (p : PutsTo t r w ws first n old) where
    -- the next write may be put
    pub may_put : HoldsBelow t x.at w (replay mid)
    may_put = (puts_on old mid begins on g p).holds n x (let low : n ≤ n = omega arith in low) stands

    -- and is put
    pub puts_next : (new : List Entry) → Lawful new → new ≡ mid ++ Put t x.at w ∷ [] → PutsTo t r w ws first (n + 1) new
    puts_next new ends is = puts_one mid new on ends is (puts_on old mid begins on g p)

-- taking the pin away gives and puts nothing
pub shut_quiet : (k : ℕ) (before later : List Entry) → later ≡ before ++ Shut k ∷ [] → SameStory k before later
shut_quiet k before later is a = story_there k a before (Shut k) later refl is

-- an actor without a lock and without its pin is idle
pub shut_idle : (t : TxnId) (r : ℕ) (before later : List Entry) → Lawful before → Lawful later → Runs t r (λ a. ⊥) before
    → later ≡ before ++ Shut t.actor ∷ [] → IsIdle t.actor later
shut_idle t r before later begins ends bare is = record {
  pin = ap (λ (p : NodeState). p.pins t.actor) (state_there before (Shut t.actor) later begins ends is)
      ∙ ap (λ (g : Bool). cond g None ((replay before).pins t.actor)) (eq-eqb t.actor t.actor refl);
  locks = λ u a own held. ⊎_elim (λ (h : HeldBy (replay before) u a). (bare.only u a own h).1) (λ takes. absurd takes)
      (held_or before (Shut t.actor) later begins ends is u a held);
}

-- before and behind the puts nothing was put
pub puts_between : (t : TxnId) (w : ℕ) (ws : List Write) (x y z u : List Entry) → SameStory t.actor x y → PutsJust t w ws y z
    → SameStory t.actor z u → PutsJust t w ws x u
puts_between t w ws x y z u same just quiet = record {
  puts = λ v there. ap (λ (h : Story). h.puts) (quiet v.at)
      ∙ (just.puts v there ∙ ap (λ (h : Story). put_by t w h ∷ h.puts) (same v.at));
  others = λ a lacks. quiet a ∙ (just.others a lacks ∙ same a);
}
