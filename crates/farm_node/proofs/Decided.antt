-- What a transaction decides, no other changes between its two stamps.
use Rattle.farm_node.proofs.Common.{◌≡◌, ◌⊎◌, ℕ, ◌<◌, ◌≤◌, max, true, List, [], ◌∷◌, ◌++◌, Option, Some, None, Ok, sym, refl, ap, ◌∙◌, subst, inl, inr, ⊎_elim}
use Rattle.farm_node.proofs.Common.{arith, cond-true, and_parts, AllByRecursion, Addr, TxnId, same_addr, version_at, newest, Hold, Entry, Made, Alloc}
use Rattle.farm_node.proofs.Common.{Lock, Check, Put, Cell, is_open, locked_by, is_gone, NodeState, PinnedBy, FitsLock, FitsCheck, Fits, looked_at, after}
use Rattle.farm_node.proofs.Common.{LawfulFrom, replay, Lawful, Story, with_put, story_after, story_from, story_begun, story, versions_of, versions_there}
use Rattle.farm_node.proofs.Common.{Spares, PutsAt, KeepsLock, Decides, MineDecides}
use Rattle.farm_node.proofs.Addresses.{same_self, set_self}
use Rattle.farm_node.proofs.Sound.{Sound, sound, pinned}
use Rattle.farm_node.proofs.Steps.{Keeps, no_cell, check_open_at, Askable, askable, lock_low, keeps_each}
use Rattle.farm_node.proofs.Chains.{BelowAll, below_more}
use Rattle.farm_node.proofs.Stories.{WaitsLock, Waits, TellsAt, Stands, stands, each_unit}
use Rattle.farm_node.proofs.Adds.{below_before}
use Rattle.farm_node.proofs.ReadsStay.{Barred, Fixed, fixed, look_bars}

-- the transaction has the lock
abbrev pub HasLock : TxnId → Option Hold → Type 0
HasLock t None = ⊥
HasLock t (Some k) = k.by ≡ t

-- it has, or no put at w or below comes any more
abbrev Keeping : TxnId → ℕ → Option Cell → ℕ → Type 0
Keeping t w None past = w ≤ past
Keeping t w (Some c) past = HasLock t c.lock ⊎ (w ≤ c.bound)

abbrev Mine : TxnId → Addr → ℕ → Entry → Type 0
Mine t a w e = PutsAt t w e × KeepsLock t a e

record KeptBy (t : TxnId) (w : ℕ) (c : Option Cell) (past floor : ℕ) (h : Story) : Type 0 where
  kept : Keeping t w c past

-- who ends or renews the lock is who has it
own_lock : (t u : TxnId) (l : Option Hold) (k : Hold) → l ≡ Some k → k.by ≡ u → HasLock t l → u ≡ t
own_lock t u l k is own has = sym own ∙ subst (HasLock t) is has

renews_lock : (t u : TxnId) (l : Option Hold) → (l ≡ None) ⊎ ((k : Hold) × (l ≡ Some k) × (k.by ≡ u)) → HasLock t l → u ≡ t
renews_lock t u l free has = ⊎_elim (λ (none : l ≡ None). absurd (subst (HasLock t) none has)) (λ own. own_lock t u l own.0 own.1 own.2 has) free

keeping_more : (t : TxnId) (w : ℕ) (c : Option Cell) (past past' : ℕ) → past ≤ past' → Keeping t w c past → Keeping t w c past'
keeping_more t w None past past' le x = omega arith
keeping_more t w (Some c) past past' le x = x

keeping_barred : (t : TxnId) (w : ℕ) (c : Option Cell) (past : ℕ) → Barred w c past → Keeping t w c past
keeping_barred t w None past bar = bar
keeping_barred t w (Some c) past bar = inr bar

open_has : (t : TxnId) (l : Option Hold) → is_open l ≡ true → HasLock t l → ⊥
open_has t None e has = has
open_has t (Some k) e has = cc

-- what no lock bars any more, n does
barred_by : (t : TxnId) (w n : ℕ) (c : Cell) → (HasLock t c.lock → w ≤ n) → c.bound ≤ n → HasLock t c.lock ⊎ (w ≤ c.bound) → w ≤ n
barred_by t w n c has le kept = ⊎_elim has (λ (low : w ≤ c.bound). let r : w ≤ n = omega arith in r) kept

kept_by : (a : Addr) (t : TxnId) (w : ℕ) → Keeps a (Mine t a w) (KeptBy t w)
kept_by a t w = record {
  aside = λ c past past' floor h le x. record { kept = keeping_more t w c past past' le x.kept };
  looked = λ c s past floor h free x. record { kept = ⊎_elim (λ has. inl has) (λ (le : w ≤ c.bound). inr (omega arith)) x.kept };
  made = λ u r v placed past floor h making x. record { kept = inr (let le : w ≤ past = x.kept in omega arith) };
  locked = λ u b r new given c past floor h locking x. record { kept = ⊎_elim (λ has. inl (renews_lock t u c.lock locking.free has)) (λ (le : w ≤ c.bound). inr le) x.kept };
  put = λ u b x c past floor h ending above y. record {
    kept = inr (barred_by t w x c (λ has. let at_w : x ≡ w = ending.fits.0 (own_lock t u c.lock ending.hold ending.lock ending.own has) in omega arith) (omega arith) y.kept);
  };
  unlocked = λ u b c past floor h ending y. record {
    kept = inr (barred_by t w c.bound c (λ has. absurd (ending.fits.1 (own_lock t u c.lock ending.hold ending.lock ending.own has) ending.here)) (omega arith) y.kept);
  };
  back = λ u b c past floor h ending none y. record {
    kept = barred_by t w (max past c.bound) c (λ has. absurd (ending.fits.1 (own_lock t u c.lock ending.hold ending.lock ending.own has) ending.here)) (omega arith) y.kept;
  };
  cut = λ c past past' floor floor' h le more y. record { kept = y.kept };
  went = λ c past past' floor floor' h le more gone high y. record {
    kept = barred_by t w past' c (λ has. absurd (open_has t c.lock (and_parts (is_open c.lock) (is_gone floor' c.versions) gone).0 has)) high y.kept;
  };
  none = λ past past' floor floor' h le more y. record { kept = let l : w ≤ past = y.kept in omega arith };
}

module _ (t : TxnId) (a : Addr) (r w : ℕ) where
  -- what comes behind

  each_both : (es : List Entry) → AllByRecursion (PutsAt t w) es → AllByRecursion (KeepsLock t a) es → AllByRecursion (Mine t a w) es
  each_both [] puts keep = tt
  each_both (e ∷ es) puts keep = ((puts.0, keep.0), each_both es puts.1 keep.1)

  kept_spares : (p : NodeState) (e : Entry) → Fits p e → Keeping t w (p.cells a) p.past → Spares t a r w e
  kept_spares p (Put u b x) fits kept = λ is other above le.
      let put = fits.0 in
      let over : put.0.bound < x = put.5 in
      ⊎_elim (λ has. other (own_lock t u put.0.lock put.1 put.3 put.4 has)) (λ (low : w ≤ put.0.bound). absurd (omega arith))
      (subst (λ (c : Option Cell). Keeping t w c p.past) (ap p.cells (sym is) ∙ put.2) kept)
  kept_spares p e fits kept = tt

  spared_kept : (p : NodeState) (h : Story) (es : List Entry) → Sound p → LawfulFrom p es → AllByRecursion (PutsAt t w) es → AllByRecursion (KeepsLock t a) es
      → Keeping t w (p.cells a) p.past → AllByRecursion (Spares t a r w) es
  spared_kept p h es s lawful puts keep kept =
      keeps_each a (Mine t a w) (KeptBy t w) (kept_by a t w) (Spares t a r w) (λ p h e fits x. kept_spares p e fits x.kept) p h es s lawful (each_both es puts keep) record { kept = kept }

  spared_barred : (p : NodeState) (h : Story) (es : List Entry) → Sound p → LawfulFrom p es → Barred w (p.cells a) p.past → AllByRecursion (Spares t a r w) es
  spared_barred p h es s lawful bar =
      keeps_each a (λ e. Unit {0}) (Fixed w (version_at w (versions_of h.puts))) (fixed a w (version_at w (versions_of h.puts))) (Spares t a r w)
      (λ p h e fits x. kept_spares p e fits (keeping_barred t w (p.cells a) p.past x.barred)) p h es s lawful (each_unit es) record { barred = bar; still = refl }

  -- what came before: no put above r

  low_spares : (h : Story) (e : Entry) → BelowAll r (story_after a h e).puts → Spares t a r w e
  low_spares h (Put u b x) low = λ is other above le.
      let l : BelowAll r (with_put u x h).puts = subst (λ (s : Story). BelowAll r s.puts) (cond-true (same_addr b a) _ h (ap (λ (z : Addr). same_addr z a) is ∙ same_self a)) low in
      let low : x ≤ r = l.0 in omega arith
  low_spares h e low = tt

  spared_low : (h : Story) (es : List Entry) → BelowAll r (story_from a h es).puts → AllByRecursion (Spares t a r w) es
  spared_low h [] low = tt
  spared_low h (e ∷ es) low = (low_spares h e (below_before a r (story_after a h e) es low), spared_low (story_after a h e) es low)

  spared_before : (before : List Entry) → Lawful before → BelowAll r (story a before).puts → AllByRecursion (Spares t a r w) before
  spared_before [] lawful low = tt
  spared_before (Made m ∷ es) lawful low = (tt, spared_low (story_begun a m) es low)
  spared_before (e ∷ es) lawful low = absurd lawful

each_append : (P : Entry → Type 0) (xs ys : List Entry) → AllByRecursion P xs → AllByRecursion P ys → AllByRecursion P (xs ++ ys)
each_append P [] ys a b = b
each_append P (x ∷ xs) ys a b = (a.0, each_append P xs ys a.1 b)

each_rest : (P : Entry → Type 0) (xs : List Entry) (y : Entry) (ys : List Entry) → AllByRecursion P (xs ++ y ∷ ys) → AllByRecursion P ys
each_rest P [] y ys t = t.1
each_rest P (x ∷ xs) y ys t = each_rest P xs y ys t.1

-- a transaction that sees no version above r sees no put above r
pub low_puts : (a : Addr) (p : NodeState) (h : Story) (k r : ℕ) → Sound p → TellsAt a p h → PinnedBy p k r → newest (versions_there (p.cells a)) ≤ r → BelowAll r h.puts
low_puts a p h k r s t pin low =
    let f : p.floor ≤ r = (pinned p k r s pin).1 in
    below_more (max p.floor (newest (versions_there (p.cells a)))) r h.puts (omega arith) t.shows.top

pub check_low : (r : ℕ) (c : Option Cell) → ((d : Cell) → c ≡ Some d → (d.lock ≡ None) × (newest d.versions ≤ r)) → newest (versions_there c) ≤ r
check_low r None is_open = omega arith
check_low r (Some c) is_open = (is_open c refl).1

own : (before rest : List Entry) (t : TxnId) (a : Addr) (w : ℕ)
    → Lawful (before ++ Put t a w ∷ rest)
    → (c : Cell) × (h : Hold) × ((replay before).cells a ≡ Some c) × (c.lock ≡ Some h) × (h.by ≡ t) × (h.pending ≡ ((story a before).given t).value)
own before rest t a w lawful =
    let x : Stands a before (Put t a w ∷ rest) = stands a before (Put t a w) rest tt lawful in
    let put = x.lawful.0.0 in
    let waits : Waits (Some put.0) (story a before) = subst (λ (c : Option Cell). Waits c (story a before)) put.2 x.tells.waits in
    let here : WaitsLock (Some put.1) (story a before) = subst (λ (l : Option Hold). WaitsLock l (story a before)) put.3 waits in
    (put.0, put.1, put.2, put.3, put.4, here.0 ∙ ap (λ (u : TxnId). ((story a before).given u).value) put.4)

-- the law by each of the three entries, in the entry's own names

abbrev Spared : List Entry → Entry → List Entry → TxnId → Addr → ℕ → ℕ → Type 0
Spared before e rest t a r w = AllByRecursion (PutsAt t w) rest → AllByRecursion (KeepsLock t a) rest → AllByRecursion (Spares t a r w) (before ++ e ∷ rest)

module _ (before rest : List Entry) (r w : ℕ) where
  around : (e : Entry) (u : TxnId) (a : Addr) → Stands a before (e ∷ rest) → PinnedBy (replay before) u.actor r → newest (versions_there ((replay before).cells a)) ≤ r
      → Spares u a r w e → AllByRecursion (Spares u a r w) rest → AllByRecursion (Spares u a r w) (before ++ e ∷ rest)
  around e u a x pin low here behind = each_append (Spares u a r w) before (e ∷ rest)
      (spared_before u a r w before x.begins (low_puts a (replay before) (story a before) u.actor r x.sound x.tells pin low)) (here, behind)

  -- the entry gave the lock
  by_lock : (e : Entry) (u : TxnId) (a : Addr) (c : Option Cell) → Stands a before (e ∷ rest) → PinnedBy (replay before) u.actor r → newest (versions_there ((replay before).cells a)) ≤ r
      → Spares u a r w e → (after (replay before) e).cells a ≡ c → Keeping u w c (after (replay before) e).past → Spared before e rest u a r w
  by_lock e u a c x pin low here is kept puts keep = around e u a x pin low here
      (spared_kept u a r w (after (replay before) e) (story a before) rest (sound (replay before) e x.lawful.0 x.sound) x.lawful.1 puts keep
      (subst (λ (c : Option Cell). Keeping u w c (after (replay before) e).past) (sym is) kept))

  by_check : (u : TxnId) (a : Addr) → Lawful (before ++ Check u a r w (Ok tt) ∷ rest) → AllByRecursion (Spares u a r w) (before ++ Check u a r w (Ok tt) ∷ rest)
  by_check u a lawful =
      let e : Entry = Check u a r w (Ok tt) in
      let x : Stands a before (e ∷ rest) = stands a before e rest tt lawful in
      let p : NodeState = replay before in
      let fits : FitsCheck p u a r w (Ok tt) = x.lawful.0 in
      around e u a x fits.pinned (check_low r (p.cells a) (check_open_at r (p.cells a) fits.due)) tt
      (spared_barred u a r w (looked_at a w p) (story a before) rest (sound p e fits x.sound) x.lawful.1 (look_bars a w p))

renamed : (P : TxnId → Addr → ℕ → ℕ → Type 0) {t u : TxnId} {a b : Addr} {r q : ℕ} (w x : ℕ) → u ≡ t → b ≡ a → q ≡ r → x ≡ w → P u b q x → P t a r w
renamed P w x e e' e'' e3 = subst (λ (z : TxnId × Addr × ℕ × ℕ). P z.0 z.1 z.2 z.3) (λ i. (e i, e' i, e'' i, e3 i))

spared : (before rest : List Entry) (e : Entry) (t : TxnId) (a : Addr) (r w : ℕ)
    → Lawful (before ++ e ∷ rest) → AllByRecursion (PutsAt t w) (before ++ e ∷ rest) → Decides t a r w e rest → AllByRecursion (Spares t a r w) (before ++ e ∷ rest)
spared before rest (Alloc u q v placed) t a r w lawful puts d =
    let e : Entry = Alloc u q v placed in
    let x : Stands placed.at before (e ∷ rest) = stands placed.at before e rest tt lawful in
    let p : NodeState = replay before in
    let none : p.cells placed.at ≡ None = no_cell (p.cells placed.at) x.lawful.0.2.free in
    renamed (Spared before e rest) w w d.0 d.1 d.2 refl
    (by_lock before rest q w e u placed.at _ x x.lawful.0.0 (subst (λ (c : Option Cell). newest (versions_there c) ≤ q) (sym none) (omega arith)) tt (set_self placed.at _ p.cells) (inl refl))
    (each_rest (PutsAt t w) before e rest puts) d.3
spared before rest (Lock u b q new (Ok given)) t a r w lawful puts d =
    let e : Entry = Lock u b q new (Ok given) in
    let x : Stands b before (e ∷ rest) = stands b before e rest tt lawful in
    let p : NodeState = replay before in
    let fits : FitsLock p u b q (Ok given) = x.lawful.0 in
    let ask : Askable u (p.cells b) = askable p u b q (Ok given) fits in
    renamed (Spared before e rest) w w d.0 d.1 d.2 refl
    (by_lock before rest q w e u b (locked_by u new (Some ask.cell)) x fits.pinned (subst (λ (c : Option Cell). newest (versions_there c) ≤ q) (sym ask.is) (lock_low p u b q given fits)) tt
    (set_self b (locked_by u new (p.cells b)) p.cells ∙ ap (locked_by u new) ask.is) (inl refl))
    (each_rest (PutsAt t w) before e rest puts) d.3
spared before rest (Check u b q x (Ok same)) t a r w lawful puts d =
    renamed (λ t a r w. AllByRecursion (Spares t a r w) (before ++ Check u b q x (Ok tt) ∷ rest)) w x d.0 d.1 d.2 d.3 (by_check before rest q x u b lawful)
spared before rest e t a r w lawful puts d = absurd d

pub decides : MineDecides
decides = record { spared = spared; own = own }
