-- Lines that are no event's.
use Rattle.std.proofs.Common.{◌≡◌, ℕ, ◌^◌, ◌<◌, List, ◌∷◌, Option, refl, sym, ◌∙◌, arith}
use Rattle.std.specs.Prelude.{decimal, codes, false}
use Rattle.std.specs.Str.{bytes_eq}
use Rattle.std.proofs.lemmas.Bool.{false≢true}
use Rattle.std.proofs.lemmas.Slice.Eq.{bytes_eq-Decides}
use Rattle.a1_base.specs.declared.limits.TheConstants.{REGION_WIDTH}
use Rattle.hex.specs.Hex.{encode_lower}
use Rattle.a1_base.specs.declared.place.Addr.{Addr}
use Rattle.a1_base.specs.declared.place.TxnId.{TxnId}
use Rattle.object_region.specs.Occupancy.{width}
use Rattle.farm_core.specs.declared.event.Event.{Event}
use Rattle.farm_core.specs.declared.event.Event.TheVariants.{Load, Read, Alloc, Lock, Check, Put, Unlock}
use Rattle.steps_text.specs.EventText.{txn_text, addr_text, new_text}
use Rattle.steps_text.specs.Reading.{Lacks, IsCut, Refuses, IsTxn, IsTextAddr, IsContent, IsNewContent, pair_text, Both, verb, arguments, IsForm}
use Rattle.steps_text.proofs.WordLemmas.{decimal_lacks, lacks_append, refused_uncut, refused_front, refused_back}

pub differ : (xs ys : List ℕ) → xs ≡ ys → bytes_eq xs ys ≡ false → ⊥
differ xs ys e h = false≢true (sym h ∙ (bytes_eq-Decides xs ys).1 e)

-- ---- two words

abbrev pub Clean : {A : Type 0} → (A → List ℕ) → (A → Type 0) → Type 0
Clean {A} text IsValue = (x : A) → IsValue x → Lacks 32 (text x)

pair_uncut : {A B : Type 0} (front : A → List ℕ) (back : B → List ℕ) (P : A → Type 0) (Q : B → Type 0) (words : List ℕ) → Lacks 32 words → Refuses (pair_text front back) (Both P Q) words
pair_uncut front back P Q words h = refused_uncut 32 (λ x. front x.0) (λ x. back x.1) (Both P Q) words h

pair_front : {A B : Type 0} (front : A → List ℕ) (back : B → List ℕ) (P : A → Type 0) (Q : B → Type 0) (words a b : List ℕ) → Clean front P → IsCut 32 words a b → Refuses front P a → Refuses (pair_text front back) (Both P Q) words
pair_front front back P Q words a b clean cut h = refused_front 32 front (λ x. x.0) (λ x. back x.1) P (Both P Q) words a b clean (λ x v. v.0) cut h

pair_back : {A B : Type 0} (front : A → List ℕ) (back : B → List ℕ) (P : A → Type 0) (Q : B → Type 0) (words a b : List ℕ) → Clean front P → IsCut 32 words a b → Refuses back Q b → Refuses (pair_text front back) (Both P Q) words
pair_back front back P Q words a b clean cut h = refused_back 32 (λ x. front x.0) (λ x. x.1) back Q (Both P Q) words a b (λ x v. clean x.0 v.0) (λ x v. v.1) cut h

pub txn_clean : Clean txn_text IsTxn
txn_clean t v =
    lacks_append 32 (decimal t.actor) (46 ∷ decimal t.number) (decimal_lacks 32 t.actor (λ r. omega arith) (omega arith))
    ((λ e. omega arith), decimal_lacks 32 t.number (λ r. omega arith) v.1)

pub offset_small : (nodes : ℕ) (a : Addr) → IsTextAddr nodes a → a.offset < 2 ^ 64
unfolding width
offset_small nodes a v = let h : a.offset < REGION_WIDTH = v.0.1 in omega arith

pub addr_clean : (nodes : ℕ) → Clean addr_text (IsTextAddr nodes)
addr_clean nodes a v =
    lacks_append 32 (decimal a.region) (58 ∷ decimal a.offset) (decimal_lacks 32 a.region (λ r. omega arith) (omega arith))
    ((λ e. omega arith), decimal_lacks 32 a.offset (λ r. omega arith) (offset_small nodes a v))

pub node_clean : (nodes : ℕ) → Clean decimal (λ n. (n < nodes) × (n < 2 ^ 32))
node_clean nodes n v = decimal_lacks 32 n (λ r. omega arith) (omega arith)

-- ---- a transaction and an address

pub placed_uncut : (nodes : ℕ) (words : List ℕ) → Lacks 32 words → Refuses (pair_text txn_text addr_text) (Both IsTxn (IsTextAddr nodes)) words
placed_uncut nodes words h = pair_uncut txn_text addr_text IsTxn (IsTextAddr nodes) words h

pub placed_txn : (nodes : ℕ) (words a b : List ℕ) → IsCut 32 words a b → Refuses txn_text IsTxn a → Refuses (pair_text txn_text addr_text) (Both IsTxn (IsTextAddr nodes)) words
placed_txn nodes words a b cut h = pair_front txn_text addr_text IsTxn (IsTextAddr nodes) words a b txn_clean cut h

pub placed_place : (nodes : ℕ) (words a b : List ℕ) → IsCut 32 words a b → Refuses addr_text (IsTextAddr nodes) b → Refuses (pair_text txn_text addr_text) (Both IsTxn (IsTextAddr nodes)) words
placed_place nodes words a b cut h = pair_back txn_text addr_text IsTxn (IsTextAddr nodes) words a b txn_clean cut h

-- ---- forms

-- where the events of a form are values of another type
form : {A : Type 0} (nodes : ℕ) (word : List ℕ) (written : A → List ℕ) (IsValue : A → Type 0) (words : List ℕ)
    → ((e : Event) → IsForm nodes word e → (x : A) × (IsValue x × (written x ≡ arguments e))) → Refuses written IsValue words → Refuses arguments (IsForm nodes word) words
form nodes word written IsValue words parts h = record { none = λ e f same. let x = parts e f in h.none x.0 x.1.0 (x.1.1 ∙ same) }

load_parts : (nodes : ℕ) (e : Event) → IsForm nodes (codes "load") e → (x : Addr × List ℕ) × (Both (IsTextAddr nodes) IsContent x × (pair_text addr_text encode_lower x ≡ arguments e))
load_parts nodes (Load a bytes) f = ((a, bytes), (((f.1.0.0, f.1.1.0), (f.1.0.1, f.1.1.1)), refl))
load_parts nodes e f = absurd (differ (verb e) (codes "load") f.0 refl)

pub load_uncut : (nodes : ℕ) (words : List ℕ) → Lacks 32 words → Refuses arguments (IsForm nodes (codes "load")) words
load_uncut nodes words h = form nodes (codes "load") (pair_text addr_text encode_lower) (Both (IsTextAddr nodes) IsContent) words (load_parts nodes) (pair_uncut addr_text encode_lower (IsTextAddr nodes) IsContent words h)

pub load_place : (nodes : ℕ) (words a b : List ℕ) → IsCut 32 words a b → Refuses addr_text (IsTextAddr nodes) a → Refuses arguments (IsForm nodes (codes "load")) words
load_place nodes words a b cut h = form nodes (codes "load") (pair_text addr_text encode_lower) (Both (IsTextAddr nodes) IsContent) words (load_parts nodes) (pair_front addr_text encode_lower (IsTextAddr nodes) IsContent words a b (addr_clean nodes) cut h)

pub load_bytes : (nodes : ℕ) (words a b : List ℕ) → IsCut 32 words a b → Refuses encode_lower IsContent b → Refuses arguments (IsForm nodes (codes "load")) words
load_bytes nodes words a b cut h = form nodes (codes "load") (pair_text addr_text encode_lower) (Both (IsTextAddr nodes) IsContent) words (load_parts nodes) (pair_back addr_text encode_lower (IsTextAddr nodes) IsContent words a b (addr_clean nodes) cut h)

alloc_parts : (nodes : ℕ) (e : Event) → IsForm nodes (codes "alloc") e → (x : TxnId × (ℕ × List ℕ)) × (Both IsTxn (Both (λ n. (n < nodes) × (n < 2 ^ 32)) IsContent) x × (pair_text txn_text (pair_text decimal encode_lower) x ≡ arguments e))
alloc_parts nodes (Alloc t n bytes) f = ((t, (n, bytes)), (((f.1.0.0, f.1.1.0), ((f.1.0.1, f.1.1.1), (f.1.0.2, f.1.1.2))), refl))
alloc_parts nodes e f = absurd (differ (verb e) (codes "alloc") f.0 refl)

alloc_refused : (nodes : ℕ) (words : List ℕ) → Refuses (pair_text txn_text (pair_text decimal encode_lower)) (Both IsTxn (Both (λ n. (n < nodes) × (n < 2 ^ 32)) IsContent)) words → Refuses arguments (IsForm nodes (codes "alloc")) words
alloc_refused nodes words h = form nodes (codes "alloc") (pair_text txn_text (pair_text decimal encode_lower)) (Both IsTxn (Both (λ n. (n < nodes) × (n < 2 ^ 32)) IsContent)) words (alloc_parts nodes) h

pub alloc_uncut : (nodes : ℕ) (words : List ℕ) → Lacks 32 words → Refuses arguments (IsForm nodes (codes "alloc")) words
alloc_uncut nodes words h = alloc_refused nodes words (pair_uncut txn_text (pair_text decimal encode_lower) IsTxn (Both (λ n. (n < nodes) × (n < 2 ^ 32)) IsContent) words h)

pub alloc_txn : (nodes : ℕ) (words a b : List ℕ) → IsCut 32 words a b → Refuses txn_text IsTxn a → Refuses arguments (IsForm nodes (codes "alloc")) words
alloc_txn nodes words a b cut h = alloc_refused nodes words (pair_front txn_text (pair_text decimal encode_lower) IsTxn (Both (λ n. (n < nodes) × (n < 2 ^ 32)) IsContent) words a b txn_clean cut h)

alloc_rest : (nodes : ℕ) (words a b : List ℕ) → IsCut 32 words a b → Refuses (pair_text decimal encode_lower) (Both (λ n. (n < nodes) × (n < 2 ^ 32)) IsContent) b → Refuses arguments (IsForm nodes (codes "alloc")) words
alloc_rest nodes words a b cut h = alloc_refused nodes words (pair_back txn_text (pair_text decimal encode_lower) IsTxn (Both (λ n. (n < nodes) × (n < 2 ^ 32)) IsContent) words a b txn_clean cut h)

pub alloc_rest_uncut : (nodes : ℕ) (words a b : List ℕ) → IsCut 32 words a b → Lacks 32 b → Refuses arguments (IsForm nodes (codes "alloc")) words
alloc_rest_uncut nodes words a b cut h = alloc_rest nodes words a b cut (pair_uncut decimal encode_lower (λ n. (n < nodes) × (n < 2 ^ 32)) IsContent b h)

pub alloc_node : (nodes : ℕ) (words a b c d : List ℕ) → IsCut 32 words a b → IsCut 32 b c d → Refuses decimal (λ n. (n < nodes) × (n < 2 ^ 32)) c → Refuses arguments (IsForm nodes (codes "alloc")) words
alloc_node nodes words a b c d cut second h = alloc_rest nodes words a b cut (pair_front decimal encode_lower (λ n. (n < nodes) × (n < 2 ^ 32)) IsContent b c d (node_clean nodes) second h)

pub alloc_bytes : (nodes : ℕ) (words a b c d : List ℕ) → IsCut 32 words a b → IsCut 32 b c d → Refuses encode_lower IsContent d → Refuses arguments (IsForm nodes (codes "alloc")) words
alloc_bytes nodes words a b c d cut second h = alloc_rest nodes words a b cut (pair_back decimal encode_lower (λ n. (n < nodes) × (n < 2 ^ 32)) IsContent b c d (node_clean nodes) second h)

lock_parts : (nodes : ℕ) (e : Event) → IsForm nodes (codes "lock") e → (x : TxnId × (Addr × Option (List ℕ))) × (Both IsTxn (Both (IsTextAddr nodes) IsNewContent) x × (pair_text txn_text (pair_text addr_text new_text) x ≡ arguments e))
lock_parts nodes (Lock t a new) f = ((t, (a, new)), (((f.1.0.0, f.1.1.0), ((f.1.0.1, f.1.1.1), (f.1.0.2, f.1.1.2))), refl))
lock_parts nodes e f = absurd (differ (verb e) (codes "lock") f.0 refl)

lock_refused : (nodes : ℕ) (words : List ℕ) → Refuses (pair_text txn_text (pair_text addr_text new_text)) (Both IsTxn (Both (IsTextAddr nodes) IsNewContent)) words → Refuses arguments (IsForm nodes (codes "lock")) words
lock_refused nodes words h = form nodes (codes "lock") (pair_text txn_text (pair_text addr_text new_text)) (Both IsTxn (Both (IsTextAddr nodes) IsNewContent)) words (lock_parts nodes) h

pub lock_uncut : (nodes : ℕ) (words : List ℕ) → Lacks 32 words → Refuses arguments (IsForm nodes (codes "lock")) words
lock_uncut nodes words h = lock_refused nodes words (pair_uncut txn_text (pair_text addr_text new_text) IsTxn (Both (IsTextAddr nodes) IsNewContent) words h)

pub lock_txn : (nodes : ℕ) (words a b : List ℕ) → IsCut 32 words a b → Refuses txn_text IsTxn a → Refuses arguments (IsForm nodes (codes "lock")) words
lock_txn nodes words a b cut h = lock_refused nodes words (pair_front txn_text (pair_text addr_text new_text) IsTxn (Both (IsTextAddr nodes) IsNewContent) words a b txn_clean cut h)

lock_rest : (nodes : ℕ) (words a b : List ℕ) → IsCut 32 words a b → Refuses (pair_text addr_text new_text) (Both (IsTextAddr nodes) IsNewContent) b → Refuses arguments (IsForm nodes (codes "lock")) words
lock_rest nodes words a b cut h = lock_refused nodes words (pair_back txn_text (pair_text addr_text new_text) IsTxn (Both (IsTextAddr nodes) IsNewContent) words a b txn_clean cut h)

pub lock_rest_uncut : (nodes : ℕ) (words a b : List ℕ) → IsCut 32 words a b → Lacks 32 b → Refuses arguments (IsForm nodes (codes "lock")) words
lock_rest_uncut nodes words a b cut h = lock_rest nodes words a b cut (pair_uncut addr_text new_text (IsTextAddr nodes) IsNewContent b h)

pub lock_place : (nodes : ℕ) (words a b c d : List ℕ) → IsCut 32 words a b → IsCut 32 b c d → Refuses addr_text (IsTextAddr nodes) c → Refuses arguments (IsForm nodes (codes "lock")) words
lock_place nodes words a b c d cut second h = lock_rest nodes words a b cut (pair_front addr_text new_text (IsTextAddr nodes) IsNewContent b c d (addr_clean nodes) second h)

pub lock_new : (nodes : ℕ) (words a b c d : List ℕ) → IsCut 32 words a b → IsCut 32 b c d → Refuses new_text IsNewContent d → Refuses arguments (IsForm nodes (codes "lock")) words
lock_new nodes words a b c d cut second h = lock_rest nodes words a b cut (pair_back addr_text new_text (IsTextAddr nodes) IsNewContent b c d (addr_clean nodes) second h)

read_parts : (nodes : ℕ) (e : Event) → IsForm nodes (codes "read") e → (x : TxnId × Addr) × (Both IsTxn (IsTextAddr nodes) x × (pair_text txn_text addr_text x ≡ arguments e))
read_parts nodes (Read t a) f = ((t, a), (((f.1.0.0, f.1.1.0), (f.1.0.1, f.1.1.1)), refl))
read_parts nodes e f = absurd (differ (verb e) (codes "read") f.0 refl)

pub read_refused : (nodes : ℕ) (words : List ℕ) → Refuses (pair_text txn_text addr_text) (Both IsTxn (IsTextAddr nodes)) words → Refuses arguments (IsForm nodes (codes "read")) words
read_refused nodes words h = form nodes (codes "read") (pair_text txn_text addr_text) (Both IsTxn (IsTextAddr nodes)) words (read_parts nodes) h

check_parts : (nodes : ℕ) (e : Event) → IsForm nodes (codes "check") e → (x : TxnId × Addr) × (Both IsTxn (IsTextAddr nodes) x × (pair_text txn_text addr_text x ≡ arguments e))
check_parts nodes (Check t a) f = ((t, a), (((f.1.0.0, f.1.1.0), (f.1.0.1, f.1.1.1)), refl))
check_parts nodes e f = absurd (differ (verb e) (codes "check") f.0 refl)

pub check_refused : (nodes : ℕ) (words : List ℕ) → Refuses (pair_text txn_text addr_text) (Both IsTxn (IsTextAddr nodes)) words → Refuses arguments (IsForm nodes (codes "check")) words
check_refused nodes words h = form nodes (codes "check") (pair_text txn_text addr_text) (Both IsTxn (IsTextAddr nodes)) words (check_parts nodes) h

put_parts : (nodes : ℕ) (e : Event) → IsForm nodes (codes "put") e → (x : TxnId × Addr) × (Both IsTxn (IsTextAddr nodes) x × (pair_text txn_text addr_text x ≡ arguments e))
put_parts nodes (Put t a) f = ((t, a), (((f.1.0.0, f.1.1.0), (f.1.0.1, f.1.1.1)), refl))
put_parts nodes e f = absurd (differ (verb e) (codes "put") f.0 refl)

pub put_refused : (nodes : ℕ) (words : List ℕ) → Refuses (pair_text txn_text addr_text) (Both IsTxn (IsTextAddr nodes)) words → Refuses arguments (IsForm nodes (codes "put")) words
put_refused nodes words h = form nodes (codes "put") (pair_text txn_text addr_text) (Both IsTxn (IsTextAddr nodes)) words (put_parts nodes) h

unlock_parts : (nodes : ℕ) (e : Event) → IsForm nodes (codes "unlock") e → (x : TxnId × Addr) × (Both IsTxn (IsTextAddr nodes) x × (pair_text txn_text addr_text x ≡ arguments e))
unlock_parts nodes (Unlock t a) f = ((t, a), (((f.1.0.0, f.1.1.0), (f.1.0.1, f.1.1.1)), refl))
unlock_parts nodes e f = absurd (differ (verb e) (codes "unlock") f.0 refl)

pub unlock_refused : (nodes : ℕ) (words : List ℕ) → Refuses (pair_text txn_text addr_text) (Both IsTxn (IsTextAddr nodes)) words → Refuses arguments (IsForm nodes (codes "unlock")) words
unlock_refused nodes words h = form nodes (codes "unlock") (pair_text txn_text addr_text) (Both IsTxn (IsTextAddr nodes)) words (unlock_parts nodes) h

-- why words are not those of a load
pub ruleset no_load = (load_uncut, load_place, load_bytes)

-- why words are no transaction with an address
pub ruleset no_placed = (placed_uncut, placed_txn, placed_place)

-- why words are not those of an alloc
pub ruleset no_alloc = (alloc_uncut, alloc_txn, alloc_rest_uncut, alloc_node, alloc_bytes)

-- why words are not those of a lock
pub ruleset no_lock = (lock_uncut, lock_txn, lock_rest_uncut, lock_place, lock_new)
