-- What the three steps of a commit come to at a node.
use Rattle.std.proofs.Common.{◌≡◌, ◌≢◌, ℕ, zero, suc, ◌<◌, List, [], ◌∷◌, Option, Some, None, length, get_or, slice_get, sym, refl, ap, ◌∙◌, subst, inl, inr, arith}
use Rattle.std.proofs.lemmas.Option.{slice_get_within, slice_get-get_or}
use Rattle.farm_node.specs.declared.entry.CheckFault.{CheckFault}
use Rattle.std.specs.List.{AllByRecursion}
use Rattle.a1_base.specs.declared.place.Addr.{Addr}
use Rattle.a1_base.specs.declared.place.TxnId.{TxnId}
use Rattle.a1_base.specs.Lists.{IsAmong}
use Rattle.farm_node.specs.Story.{Installed, Story, Given, gives}
use Rattle.write_set.specs.declared.set.Write.{Write}
use Rattle.write_set.specs.Writes.{Lacks}
use Rattle.transaction_part.specs.declared.part.Part.{Part}
use Rattle.transaction_part.specs.declared.part.Seen.{Seen}
use Rattle.transaction_part.specs.Part.{addresses, log, written}
use Rattle.transaction_part.specs.Stories.{own_story, put_by}
use Rattle.transaction_part.proofs.Telling.{begins_then, checked_grown, refused_grown}
use Rattle.farm_commit.specs.Nodes.{Lock}
use Rattle.farm_commit.specs.Commits.{InstallsThere, IsCaused, PutsThere, PutsNone}
use Rattle.farm_commit.specs.Parts.{EachStep}
use Rattle.farm_commit.specs.Steps.{ChecksThere, LocksThere, PutsAll, RestsThere, StopsThere}

-- writes of the same addresses

pub none_within : {A : Type 0} (xs : List A) (i : ℕ) → slice_get xs i ≡ None → i < length xs → ⊥
none_within [] i none low = omega arith
none_within (x ∷ xs) zero none low = let bad : Some x ≡ None = none in absurd (cc)
none_within (x ∷ xs) (suc i) none low = none_within xs i none (omega arith)

pub lacks_same : (ws vs : List Write) (a : Addr) → addresses vs ≡ addresses ws → Lacks ws a → Lacks vs a
lacks_same ws vs a same lacks = back vs (subst (AllByRecursion (λ (b : Addr). b ≢ a)) (sym same) (on ws lacks)) where
  on : (xs : List Write) → Lacks xs a → AllByRecursion (λ (b : Addr). b ≢ a) (addresses xs)
  on [] l = tt
  on (x ∷ xs) l = (l.0, on xs l.1)

  back : (xs : List Write) → AllByRecursion (λ (b : Addr). b ≢ a) (addresses xs) → Lacks xs a
  back [] l = tt
  back (x ∷ xs) l = (l.0, back xs l.1)

pub among_same : (ws vs : List Write) (w : Write) → addresses vs ≡ addresses ws → IsAmong w ws
    → (v : Write) × IsAmong v vs × (v.at ≡ w.at)
among_same ws vs w same there = back vs (subst (IsAmong w.at) (sym same) (on ws there)) where
  on : (xs : List Write) → IsAmong w xs → IsAmong w.at (addresses xs)
  on [] h = absurd h
  on (x ∷ xs) h = elim h [ inl e ↦ inl (ap (λ (z : Write). z.at) e) | inr more ↦ inr (on xs more) ]

  back : (xs : List Write) → IsAmong w.at (addresses xs) → (v : Write) × IsAmong v xs × (v.at ≡ w.at)
  back [] h = absurd h
  back (x ∷ xs) h = elim h [ inl e ↦ (x, inl refl, e) | inr more ↦ (let b = back xs more in (b.0, inr b.1, b.2)) ]

-- checked and then installed
pub installs_there : (t : TxnId) (r w nodes : ℕ) (reads : List Seen) (i : ℕ) (l : Lock) (p q u : Part)
    → ChecksThere t r w nodes reads i l p q → PutsAll t w i l q u → InstallsThere t r w nodes reads i l p u
installs_there t r w nodes reads i l p q u checks put = record {
  grown = begins_then (log p) (log q) (log u) checks.grown put.grown;
  puts = record {
    puts = λ x there. put.puts.puts x (subst (IsAmong x) (sym checks.same) there)
        ∙ ap (λ (h : Story). put_by t w h ∷ h.puts) (checks.quiet x.at);
    others = λ a lacks. put.puts.others a (subst (λ (ws : List Write). Lacks ws a) (sym checks.same) lacks) ∙ checks.quiet a;
  };
  checked = λ y there at lacks. checked_grown t y.at r w (log q) (log u) put.grown
      (checks.checked y there at (subst (λ (ws : List Write). Lacks ws y.at) (sym checks.same) lacks));
}

-- locked before that
pub puts_there : (t : TxnId) (r w top nodes : ℕ) (reads : List Seen) (i : ℕ) (l : Lock) (p q u : Part)
    → LocksThere t r top i l p q → InstallsThere t r w nodes reads i l q u → PutsThere t r w nodes reads i l p u
puts_there t r w top nodes reads i l p q u locks installs = record {
  grown = begins_then (log p) (log q) (log u) locks.grown installs.grown;
  puts = λ v there.
      let x = among_same (written p) (written q) v locks.same there in
      subst (λ (a : Addr). (own_story t.actor a (log u)).puts ≡ record { by = t; read = r; stamp = w; value = v.value } ∷ (own_story t.actor a (log p)).puts) x.2
      (installs.puts.puts x.0 x.1 ∙ (ap (λ (z : Installed). z ∷ (own_story t.actor x.0.at (log q)).puts) (put_given x.0.at v there (sym x.2))
      ∙ ap (λ (zs : List Installed). record { by = t; read = r; stamp = w; value = v.value } ∷ zs) (locks.puts x.0.at)));
  others = λ a lacks. ap (λ (h : Story). h.puts) (installs.puts.others a (lacks_same (written p) (written q) a locks.same lacks)) ∙ locks.puts a;
  checked = λ y there at lacks. installs.checked y there at (lacks_same (written p) (written q) y.at locks.same lacks);
} where
  put_given : (a : Addr) (v : Write) → IsAmong v (written p) → v.at ≡ a → put_by t w (own_story t.actor a (log q))
      ≡ record { by = t; read = r; stamp = w; value = v.value }
  put_given a v there at =
      let g : (own_story t.actor a (log q)).given t ≡ gives r v.value =
      subst (λ (b : Addr). (own_story t.actor b (log q)).given t ≡ gives r v.value) at (locks.gave v there) in
      ap (λ (x : Given). record { by = t; read = x.read; stamp = w; value = x.value }) g

-- stopped, and then given up
pub none_there : (t : TxnId) (r i : ℕ) (l : Lock) (p q u : Part) → StopsThere t r i l p q → RestsThere t.actor i l q u
    → PutsNone t.actor i l p u
none_there t r i l p q u stops rests = record {
  grown = begins_then (log p) (log q) (log u) stops.grown rests.grown;
  puts = λ a. ap (λ (h : Story). h.puts) (rests.quiet a) ∙ stops.puts a;
}

pub none_then : (t : TxnId) (r top i : ℕ) (l : Lock) (p q u : Part) → LocksThere t r top i l p q → PutsNone t.actor i l q u
    → PutsNone t.actor i l p u
none_then t r top i l p q u locks none = record {
  grown = begins_then (log p) (log q) (log u) locks.grown none.grown;
  puts = λ a. none.puts a ∙ locks.puts a;
}

pub rests_none : (k i : ℕ) (l : Lock) (p q : Part) → RestsThere k i l p q → PutsNone k i l p q
rests_none k i l p q x = record { grown = x.grown; puts = λ a. ap (λ (h : Story). h.puts) (x.quiet a) }

-- a cause stays while lists go on
pub cause_grown : (locks : List Lock) (t : TxnId) (r : ℕ) (a : Addr) (fault : CheckFault) (k : ℕ) (old new : List Part)
    → length old ≡ length locks → EachStep locks (RestsThere k) old new → IsCaused t r a fault old → IsCaused t r a fault new
cause_grown locks t r a fault k old new count step (i, p, at, was) =
    let low : i < length old = slice_get_within old i p at in
    let same = step.count in
    let there = slice_get-get_or new i p (omega (arith, low, same)) in
    by (slice_get locks i) refl there where
      by : (o : Option Lock) → slice_get locks i ≡ o → slice_get new i ≡ Some (get_or new i p) → IsCaused t r a fault new
      by None e there =
          let low : i < length old = slice_get_within old i p at in
          absurd (past e (omega (arith, low, count))) where
            past : slice_get locks i ≡ None → i < length locks → ⊥
            past none within = none_within locks i none within
      by (Some l) e there =
          (i, get_or new i p, there, refused_grown t a r fault (log p) (log (get_or new i p)) (step.each i l p (get_or new i p) e at there).grown was)
