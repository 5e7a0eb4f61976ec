-- What holds of the puts on an address.
use Rattle.farm_node.proofs.Common.{◌≡◌, ◌≢◌, ℕ, ◌<◌, ◌≤◌, ◌==◌, cond, Bool, true, false, List, [], ◌∷◌, ◌++◌, filter, Option, None, Ok, sym, refl, ap, ◌∙◌}
use Rattle.farm_node.proofs.Common.{subst, arith, cond_both, cond-true, cond-false, eq-eqb, eqb-true, eqb-false, ne_eqb, Addr, TxnId, same_addr, Version, Start}
use Rattle.farm_node.proofs.Common.{Entry, Made, Check, Bytes, same_txn, found_of, NodeState, FitsCheck, looked_at, replay, Lawful, Given, gives, Installed}
use Rattle.farm_node.proofs.Common.{Story, with_given, with_put, story_after, story_from, loaded_puts, untold, story_begun, story, stamped_bytes, value_at}
use Rattle.farm_node.proofs.Common.{number_of}
use Rattle.a1_base.specs.Lists.{entries_of}
use Rattle.farm_node.specs.Puts.{PutsHold}
use Rattle.farm_node.proofs.Sound.{txn_eq}
use Rattle.farm_node.proofs.Steps.{check_open_at}
use Rattle.farm_node.proofs.Chains.{BelowAll, steady, decided_at}
use Rattle.farm_node.proofs.Stories.{Ends, ends, Stands, stands}
use Rattle.farm_node.proofs.Adds.{Adding, nothing, giving, putting, adding}
use Rattle.farm_node.proofs.ReadsStay.{Barred, fixed_behind, barred_less, look_bars}
use Rattle.farm_node.proofs.Decided.{low_puts, check_low}
use Rattle.farm_node.proofs.Later.{later_end}

-- what stands below the puts of a list stays below them

abbrev told : List Installed → (TxnId → Given) → Story
told puts given = record { puts = puts; given = given }

loads_stay : (a : Addr) (loads puts : List Installed) (given : TxnId → Given) (es : List Entry)
    → (story_from a (told (puts ++ loads) given) es).puts ≡ (story_from a (told puts given) es).puts ++ loads
loads_stay a loads puts given [] = refl
loads_stay a loads puts given (e ∷ es) = by (adding a e) (λ puts given. loads_stay a loads puts given es) where
  joined : (h g : Story) → story_after a (told (puts ++ loads) given) e ≡ h → story_after a (told puts given) e ≡ g → (story_from a h es).puts ≡ (story_from a g es).puts ++ loads
      → (story_from a (told (puts ++ loads) given) (e ∷ es)).puts ≡ (story_from a (told puts given) (e ∷ es)).puts ++ loads
  joined h g is is' same = ap (λ (z : Story). (story_from a z es).puts) is ∙ (same ∙ sym (ap (λ (z : Story). (story_from a z es).puts ++ loads) is'))

  by : Adding a e → ((puts : List Installed) (given : TxnId → Given) → (story_from a (told (puts ++ loads) given) es).puts ≡ (story_from a (told puts given) es).puts ++ loads)
      → (story_from a (told (puts ++ loads) given) (e ∷ es)).puts ≡ (story_from a (told puts given) (e ∷ es)).puts ++ loads
  by (nothing is) more = joined _ _ (is (told (puts ++ loads) given)) (is (told puts given)) (more puts given)
  by (giving t g actor is) more = joined _ _ (is (told (puts ++ loads) given)) (is (told puts given)) (more puts (λ u. cond (same_txn t u) g (given u)))
  by (putting t w actor is) more = joined _ _ (is (told (puts ++ loads) given)) (is (told puts given)) (more (record { by = t; read = (given t).read; stamp = w; value = (given t).value } ∷ puts) given)

pub loaded : (m : Start) (es : List Entry) (a : Addr) → Lawful (Made m ∷ es) → (story a (Made m ∷ es)).puts ≡ (story_from a untold es).puts ++ loaded_puts a m.stamp m.heap
loaded m es a lawful = loads_stay a (loaded_puts a m.stamp m.heap) [] (λ t. gives 0 None) es

-- what the entries of one actor alone know

module _ (a : Addr) (k : ℕ) where
  abbrev mine : List Installed → List Installed
  mine puts = filter (λ i. i.by.actor == k) puts

  record Own (all one : Story) : Type 0 where
    puts : mine all.puts ≡ one.puts
    given : (t : TxnId) → t.actor ≡ k → all.given t ≡ one.given t

  own_given : (t : TxnId) (g : Given) (all one : Story) → Own all one → Own (with_given t g all) (with_given t g one)
  own_given t g all one o = record { puts = o.puts; given = λ u is. ap (λ (x : Given). cond (same_txn t u) g x) (o.given u is) }

  other_given : (t : TxnId) (g : Given) (all one : Story) → t.actor ≢ k → Own all one → Own (with_given t g all) one
  other_given t g all one other o =
      let apart = λ (u : TxnId) (is : u.actor ≡ k) (same : same_txn t u ≡ true). other (ap (λ (z : TxnId). z.actor) (txn_eq t u same) ∙ is) in
      record { puts = o.puts; given = λ u is. cond_both (same_txn t u) g (all.given u) (λ x. x ≡ one.given u) (λ same. absurd (apart u is same)) (λ e. o.given u is) }

  own_put : (t : TxnId) (w : ℕ) (all one : Story) → t.actor ≡ k → Own all one → Own (with_put t w all) (with_put t w one)
  own_put t w all one is o =
      let put = λ (x : Given) (puts : List Installed). record { by = t; read = x.read; stamp = w; value = x.value } ∷ puts in
      record { puts = cond-true (t.actor == k) _ (mine all.puts) (eq-eqb t.actor k is) ∙ (λ i. put (o.given t is i) (o.puts i)); given = o.given }

  other_put : (t : TxnId) (w : ℕ) (all one : Story) → t.actor ≢ k → Own all one → Own (with_put t w all) one
  other_put t w all one other o = record { puts = cond-false (t.actor == k) _ (mine all.puts) (ne_eqb t.actor k other) ∙ o.puts; given = o.given }

  own_step : (e : Entry) (all one : Story) → Own all one → (g : Bool) → (number_of e == k) ≡ g → Own (story_after a all e) (cond g (story_after a one e) one)
  own_step e all one o true is = by (adding a e) where
    by : Adding a e → Own (story_after a all e) (story_after a one e)
    by (nothing same) = subst (λ (z : Story × Story). Own z.0 z.1) (λ i. (sym (same all) i, sym (same one) i)) o
    by (giving t g actor same) = subst (λ (z : Story × Story). Own z.0 z.1) (λ i. (sym (same all) i, sym (same one) i)) (own_given t g all one o)
    by (putting t w actor same) = subst (λ (z : Story × Story). Own z.0 z.1) (λ i. (sym (same all) i, sym (same one) i)) (own_put t w all one (actor ∙ eqb-true (number_of e) k is) o)
  own_step e all one o false is = by (adding a e) where
    other : (t : TxnId) → t.actor ≡ number_of e → t.actor ≢ k
    other t actor same = eqb-false (number_of e) k is (sym actor ∙ same)

    by : Adding a e → Own (story_after a all e) one
    by (nothing same) = subst (λ (z : Story). Own z one) (sym (same all)) o
    by (giving t g actor same) = subst (λ (z : Story). Own z one) (sym (same all)) (other_given t g all one (other t actor) o)
    by (putting t w actor same) = subst (λ (z : Story). Own z one) (sym (same all)) (other_put t w all one (other t actor) o)

  own_all : (es : List Entry) (all one : Story) → Own all one → mine (story_from a all es).puts ≡ (story_from a one (entries_of number_of k es)).puts
  own_all [] all one o = o.puts
  own_all (e ∷ es) all one o =
      own_all es (story_after a all e) (cond (number_of e == k) (story_after a one e) one) (own_step e all one o (number_of e == k) refl)
      ∙ elim (number_of e == k) as (λ g. (story_from a (cond g (story_after a one e) one) (entries_of number_of k es)).puts
      ≡ (story_from a one (cond g (e ∷ entries_of number_of k es) (entries_of number_of k es))).puts) [ true ↦ refl | false ↦ refl ]

  none_loaded : (stamp : ℕ) (heap : List (Addr × Bytes)) → 0 < k → mine (loaded_puts a stamp heap) ≡ []
  none_loaded stamp [] low = refl
  none_loaded stamp (x ∷ xs) low = cond_both (same_addr x.0 a) _ _ (λ puts. mine puts ≡ []) (λ is. cond-false (0 == k) _ [] (ne_eqb 0 k (λ e. absurd (omega arith)))) (λ e. none_loaded stamp xs low)

own_puts : (log : List Entry) (a : Addr) (k : ℕ) → Lawful log → 0 < k → filter (λ i. i.by.actor == k) (story a log).puts ≡ (story_from a untold (entries_of number_of k log)).puts
own_puts [] a k lawful low = absurd lawful
own_puts (Made m ∷ es) a k lawful low =
    own_all a k es (story_begun a m) untold record { puts = none_loaded a k m.stamp m.heap low; given = λ t is. refl }
    ∙ sym (ap (λ (x : Bool). (story_from a untold (cond x (Made m ∷ entries_of number_of k es) (entries_of number_of k es))).puts) (ne_eqb 0 k (λ e. absurd (omega arith))))
own_puts (e ∷ es) a k lawful low = absurd lawful

-- what is decided

checked : (before rest : List Entry) (t : TxnId) (a : Addr) (r w s : ℕ) → Lawful (before ++ Check t a r w (Ok tt) ∷ rest) → r ≤ s → s ≤ w
    → value_at (before ++ Check t a r w (Ok tt) ∷ rest) a s ≡ value_at (before ++ Check t a r w (Ok tt) ∷ rest) a r
checked before rest t a r w s lawful low high =
    let e : Entry = Check t a r w (Ok tt) in
    let x : Stands a before (e ∷ rest) = stands a before e rest tt lawful in
    let p : NodeState = replay before in
    let h : Story = story a before in
    let fits : FitsCheck p t a r w (Ok tt) = x.lawful.0 in
    let puts : BelowAll r h.puts = low_puts a p h t.actor r x.sound x.tells fits.pinned (check_low r (p.cells a) (check_open_at r (p.cells a) fits.due)) in
    let later : Barred w ((looked_at a w p).cells a) (looked_at a w p).past = look_bars a w p in
    let at_s = fixed_behind a s before rest e x (barred_less s w _ _ high later) in
    let at_r = fixed_behind a r before rest e x (barred_less r w _ _ (omega arith) later) in
    ap (λ (v : Option Version). stamped_bytes (found_of v)) (at_s ∙ (steady r s h.puts puts low ∙ sym at_r))

-- the law of puts
pub puts : PutsHold
puts = record {
  falls = λ log a lawful. (ends a log lawful).tells.order.0;
  loaded = loaded;
  later = λ m es a i lawful there. (later_end a m es lawful).puts i there;
  decided = λ log a i s lawful there low high.
      let t : Ends a log = ends a log lawful in
      ap (λ (v : Option Version). stamped_bytes (found_of v)) (decided_at (story a log).puts i s t.tells.order.0 t.tells.order.1 there low high);
  checked = checked;
  own = own_puts;
}
