-- The laws of a good state.
use Rattle.std.proofs.Common.{◌≡◌, ℕ, ◌<◌, ◌≤◌, true, List, ◌∷◌, ◌++◌, Ok, sym, refl, ap, ◌∙◌, subst, inr, ⊎_elim, arith, append_assoc}
use Rattle.std.proofs.lemmas.Bool.{both_ways, cases_Bool}
use Rattle.farm_core.proofs.Words.{Addr, TxnId, Found, Entry, Lawful, Installed, story, value_at, stamped_bytes, Installing, State, home, node_of}
use Rattle.farm_node.specs.declared.entry.Entry.TheVariants as entry
use Rattle.farm_node.proofs.ReadsStay.{reads, pins}
use Rattle.farm_node.proofs.PutsStay.{puts}
use Rattle.farm_core.specs.Serial.{log_of, ValueStands, HasInstalled, HasTouched, SerialOrder, SnapshotsKept}
use Rattle.farm_core.proofs.Held.{IsPut, HasPut, holds_held}
use Rattle.farm_core.proofs.Good.{SameIn, Good, home_low}

-- what an entry answered stands

pub entered_stands : (log : List Entry) (k r : ℕ) (a : Addr) (found : Found) (before rest : List Entry) → Lawful log → log ≡ before ++ entry.Read k a r (Ok found) ∷ rest → ValueStands log a r (stamped_bytes found)
entered_stands log k r a found before rest lawful is = record {
  whole = ap (λ (es : List Entry). value_at es a r) is ∙ reads.read before rest k a r found (subst Lawful is lawful);
  longer = λ more all.
      let parts : log ++ more ≡ before ++ entry.Read k a r (Ok found) ∷ (rest ++ more) = ap (λ (es : List Entry). es ++ more) is ∙ append_assoc before (entry.Read k a r (Ok found) ∷ rest) more in
      ap (λ (es : List Entry). value_at es a r) parts ∙ reads.read before (rest ++ more) k a r found (subst Lawful parts all);
}

module _ (s : State) (g : Good s) where
  lawful : (a : Addr) → Lawful (log_of s a)
  lawful a = (g.base.lists (home s a) (home_low s a g.base.count.0)).lawful

  -- the serial order

  actor_of : (t : TxnId) → HasInstalled s t → 0 < t.actor
  actor_of t done = let stage : (s.transactions t).stage ≡ Installing = done.0 in ((g.base.sane t).begun (λ none. cc)).0

  installs : (t : TxnId) (a : Addr) → HasInstalled s t → (s.transactions t).had_locked a ≡ true → HasPut t (story a (log_of s a)).puts
  installs t a done locked =
      let stage : (s.transactions t).stage ≡ Installing = done.0 in
      ⊎_elim
      (λ holds. absurd (done.1 (a, holds_held (node_of s a) t a holds)))
      (λ put. put)
      ((g.base.held t (actor_of t done) a).locked locked (λ refused. cc))

  steady_put : (t : TxnId) (a : Addr) (stamp : ℕ) → HasInstalled s t → HasPut t (story a (log_of s a)).puts → (s.transactions t).read_stamp ≤ stamp → stamp < (s.transactions t).write_stamp
      → value_at (log_of s a) a stamp ≡ value_at (log_of s a) a (s.transactions t).read_stamp
  steady_put t a stamp done put low high =
      let i : Installed = put.0 in
      let is_put : IsPut (s.transactions t) i = (g.base.held t (actor_of t done) a).puts i put.1 put.2 in
      let read : i.read ≡ (s.transactions t).read_stamp = is_put.read in
      let write : i.stamp ≡ (s.transactions t).write_stamp = is_put.stamp in
      puts.decided (log_of s a) a i stamp (lawful a) put.1 (omega arith) (omega arith) ∙ ap (value_at (log_of s a) a) read

  steady_same : (t : TxnId) (a : Addr) (stamp : ℕ) → SameIn (log_of s a) t a (s.transactions t).read_stamp (s.transactions t).write_stamp
      → (s.transactions t).read_stamp ≤ stamp → stamp < (s.transactions t).write_stamp
      → value_at (log_of s a) a stamp ≡ value_at (log_of s a) a (s.transactions t).read_stamp
  steady_same t a stamp same low high =
      subst (λ (log : List Entry). value_at log a stamp ≡ value_at log a (s.transactions t).read_stamp) (sym same.is)
      (puts.checked same.before same.rest t a (s.transactions t).read_stamp (s.transactions t).write_stamp stamp (subst Lawful same.is (lawful a)) low (omega arith))

  steady : (t : TxnId) (a : Addr) (stamp : ℕ) → HasInstalled s t → HasTouched s t a → (s.transactions t).read_stamp ≤ stamp → stamp < (s.transactions t).write_stamp
      → value_at (log_of s a) a stamp ≡ value_at (log_of s a) a (s.transactions t).read_stamp
  steady t a stamp done touched low high = ⊎_elim
      (λ locked. steady_put t a stamp done (installs t a done locked) low high)
      (λ free. steady_same t a stamp (g.base.same t a ((g.base.sane t).all_same done.0 a (⊎_elim (λ read. read) (λ locked. absurd (both_ways _ free locked)) touched) free)) low high)
      (cases_Bool ((s.transactions t).had_locked a))

  pub serial : SerialOrder s
  serial = record {
    apart = g.base.apart;
    later = λ t done. (g.base.sane t).drawn (inr done.0);
    puts = λ a i there actor. ((g.base.held i.by actor a).puts i there refl).stamp;
    installs = installs;
    steady = steady;
  }

  -- snapshots

  pub snapshots : SnapshotsKept s
  snapshots = record {
    kept = λ t n a stamp is_open less low. pins.kept (s.logs n) t.actor (s.transactions t).read_stamp a stamp (g.base.lists n less).lawful (g.pins.open_at t n less is_open) low;
  }
