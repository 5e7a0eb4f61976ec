-- The puts of actors: each comes by a lock of an actor, above the stamp of the start.
use Rattle.farm_node.proofs.Common.{◌≡◌, ◌⊎◌, ℕ, ◌<◌, ◌≤◌, List, [], ◌∷◌, Option, Some, None, sym, refl, ◌∙◌, subst, inl, inr, ⊎_elim, arith, cond_both, Addr}
use Rattle.farm_node.proofs.Common.{TxnId, IsAmong, same_addr, newest, cut, Hold, Start, Entry, Made, Bytes, Cell, loaded_cells, begun, replay_from, Lawful}
use Rattle.farm_node.proofs.Common.{Installed, Story, story_from, untold, versions_there}
use Rattle.farm_node.proofs.Sound.{sound_begun}
use Rattle.farm_node.proofs.Steps.{Keeps, keeps_all}
use Rattle.farm_node.proofs.Chains.{newest_cut}
use Rattle.farm_node.proofs.Stories.{each_unit}
use Rattle.farm_node.proofs.ReadsStay.{Barred, barred_more}

-- who holds the lock is an actor

abbrev ActorsLock : Option Hold → Type 0
ActorsLock None = Unit {0}
ActorsLock (Some k) = 0 < k.by.actor

abbrev ActorsCell : Option Cell → Type 0
ActorsCell None = Unit {0}
ActorsCell (Some c) = ActorsLock c.lock

-- the stamp is a put's
abbrev pub PutAt : ℕ → List Installed → Type 0
PutAt n puts = (i : Installed) × IsAmong i puts × (i.stamp ≡ n)

-- of the puts behind the start; the newest version is one of them, or at most the floor
pub record Later (start : ℕ) (c : Option Cell) (past floor : ℕ) (h : Story) : Type 0 where
  pub bar : Barred start c past
  pub actors : ActorsCell c
  pub puts : (i : Installed) → IsAmong i h.puts → (0 < i.by.actor) × (start < i.stamp)
  pub newest : (newest (versions_there c) ≤ floor) ⊎ PutAt (newest (versions_there c)) h.puts

holder_acts : (c : Cell) (k : Hold) (t : TxnId) → c.lock ≡ Some k → k.by ≡ t → ActorsLock c.lock → 0 < t.actor
holder_acts c k t lock own acts = subst (λ (u : TxnId). 0 < u.actor) own (subst ActorsLock lock acts)

newest_moved : (m n floor floor' : ℕ) (puts : List Installed) → n ≡ m → floor ≤ floor' → (m ≤ floor) ⊎ PutAt m puts → (n ≤ floor') ⊎ PutAt n puts
newest_moved m n floor floor' puts is le t = ⊎_elim (λ (low : m ≤ floor). inl (omega arith)) (λ (x : PutAt m puts). inr (x.0, x.1, x.2 ∙ sym is)) t

later : (a : Addr) (start : ℕ) → Keeps a (λ e. Unit {0}) (Later start)
later a start = record {
  aside = λ c past past' floor h le t. record { bar = barred_more start c past past' le t.bar; actors = t.actors; puts = t.puts; newest = t.newest };
  looked = λ c s past floor h free t. record { bar = let b : start ≤ c.bound = t.bar in omega arith; actors = t.actors; puts = t.puts; newest = t.newest };
  made = λ u r v placed past floor h making t. record { bar = let b : start ≤ past = t.bar in omega arith; actors = making.actor; puts = t.puts; newest = inl (omega arith) };
  locked = λ u b r new given c past floor h locking t. record { bar = t.bar; actors = locking.actor; puts = t.puts; newest = t.newest };
  put = λ u b w c past floor h ending above t.
      let b : start ≤ c.bound = t.bar in
      let acts : 0 < u.actor = holder_acts c ending.hold u ending.lock ending.own t.actors in
      record {
        bar = omega arith;
        actors = tt;
        puts = λ i there. ⊎_elim (λ is. subst (λ (z : Installed). (0 < z.by.actor) × (start < z.stamp)) is (acts, omega arith)) (λ more. t.puts i more) there;
        newest = inr (_, inl refl, refl);
      };
  unlocked = λ u b c past floor h ending t. record { bar = t.bar; actors = tt; puts = t.puts; newest = t.newest };
  back = λ u b c past floor h ending none t. record { bar = let b : start ≤ c.bound = t.bar in omega arith; actors = tt; puts = t.puts; newest = inl (omega arith) };
  cut = λ c past past' floor floor' h le more t.
      let newest = newest_moved (newest c.versions) (newest (cut floor' c.versions)) floor floor' h.puts (newest_cut floor' c.versions) more t.newest in
      record { bar = t.bar; actors = t.actors; puts = t.puts; newest = newest };
  went = λ c past past' floor floor' h le more gone high t. record { bar = let b : start ≤ c.bound = t.bar in omega arith; actors = tt; puts = t.puts; newest = inl (omega arith) };
  none = λ past past' floor floor' h le more t. record { bar = let b : start ≤ past = t.bar in omega arith; actors = tt; puts = t.puts; newest = inl (omega arith) };
}

later_begun : (a : Addr) (stamp : ℕ) (heap : List (Addr × Bytes)) → Later stamp (loaded_cells stamp heap a) stamp stamp untold
later_begun a stamp [] = record { bar = omega arith; actors = tt; puts = λ i there. absurd there; newest = inl (omega arith) }
later_begun a stamp (x ∷ xs) = cond_both (same_addr x.0 a) _ _ (λ c. Later stamp c stamp stamp untold)
    (λ is. record { bar = omega arith; actors = tt; puts = λ i there. absurd there; newest = inl (omega arith) }) (λ e. later_begun a stamp xs)

pub later_end : (a : Addr) (m : Start) (es : List Entry) → Lawful (Made m ∷ es) → Later m.stamp ((replay_from (begun m) es).cells a) (replay_from (begun m) es).past (replay_from (begun m) es).floor (story_from a untold es)
later_end a m es lawful = keeps_all a (λ e. Unit {0}) (Later m.stamp) (later a m.stamp) (begun m) untold es (sound_begun m lawful.0) lawful.1 (each_unit es) (later_begun a m.stamp m.heap)
