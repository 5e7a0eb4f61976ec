-- A text is that of one list of events, or has one first broken line.
use Rattle.std.proofs.Common.{◌≡◌, ℕ, ◌^◌, ◌<◌, List, [], ◌∷◌, ◌++◌, length, Option, Some, None, refl, sym, ap, ◌∙◌, append_assoc, arith, length-append}
use Rattle.std.specs.Prelude.{decimal, codes}
use Rattle.std.specs.List.{flat_map, AllByRecursion}
use Rattle.std.proofs.lemmas.Fmt.{decimal_injective}
use Rattle.hex.specs.Hex.{encode_lower, lower_digits, decode_of}
use Rattle.hex.proofs.HexLemmas.{decode_of-encode_lower, decode_of-same, length-encode_with}
use Rattle.a1_base.specs.declared.place.Addr.{Addr}
use Rattle.a1_base.specs.declared.place.TxnId.{TxnId}
use Rattle.farm_core.specs.declared.event.Event.{Event}
use Rattle.farm_core.specs.declared.event.Event.TheVariants.{Load, Begin, Read, Alloc, Lock, Draw, Check, Put, Unlock, Shut, Collect}
use Rattle.steps_text.specs.EventText.{txn_text, addr_text, new_text, event_text, event_line, IsEvent, BreaksAfter}
use Rattle.steps_text.specs.Reading.{IsTxn, IsTextAddr, IsContent, IsNewContent, verb, arguments}
use Rattle.steps_text.proofs.WordLemmas.{one_cut, actor_clean, region_clean}
use Rattle.steps_text.proofs.FormLemmas.{differ, txn_clean, addr_clean, node_clean, offset_small}
use Rattle.steps_text.proofs.EventLemmas.{verb_clean, verb_first, event_clean}
use Rattle.steps_text.proofs.LineLemmas.{line_first}

both_same : {A B C : Type 0} (f : A → B → C) (a b : A) (c d : B) → a ≡ b → c ≡ d → f a c ≡ f b d
both_same f a b c d h k = ap (λ x. f x c) h ∙ ap (f b) k

all_same : {A B C D : Type 0} (f : A → B → C → D) (a b : A) (c d : B) (x y : C) → a ≡ b → c ≡ d → x ≡ y → f a c x ≡ f b d y
all_same f a b c d x y h k l = ap (λ z. f z c x) h ∙ ap (λ z. f b z x) k ∙ ap (f b d) l

-- ---- words

txn_one : (t u : TxnId) → IsTxn t → IsTxn u → txn_text t ≡ txn_text u → t ≡ u
txn_one t u v w e =
    let parts = one_cut 46 (decimal t.actor) (decimal t.number) (decimal u.actor) (decimal u.number) (actor_clean t.actor v.0) (actor_clean u.actor w.0) e in
    let make : ℕ → ℕ → TxnId = λ actor number. record { actor = actor; number = number } in
    both_same make t.actor u.actor t.number u.number (decimal_injective t.actor u.actor (omega arith) (omega arith) parts.0) (decimal_injective t.number u.number v.1 w.1 parts.1)

addr_one : (nodes : ℕ) (a b : Addr) → IsTextAddr nodes a → IsTextAddr nodes b → addr_text a ≡ addr_text b → a ≡ b
addr_one nodes a b v w e =
    let parts = one_cut 58 (decimal a.region) (decimal a.offset) (decimal b.region) (decimal b.offset) (region_clean a v.1) (region_clean b w.1) e in
    let make : ℕ → ℕ → Addr = λ region offset. record { region = region; offset = offset } in
    both_same make a.region b.region a.offset b.offset (decimal_injective a.region b.region (omega arith) (omega arith) parts.0)
    (decimal_injective a.offset b.offset (offset_small nodes a v) (offset_small nodes b w) parts.1)

content_one : (xs ys : List ℕ) → IsContent xs → IsContent ys → encode_lower xs ≡ encode_lower ys → xs ≡ ys
content_one xs ys v w e = decode_of-same (encode_lower xs) xs ys (decode_of-encode_lower xs v.1) (ap decode_of e ∙ decode_of-encode_lower ys w.1)

no_bytes : (bytes : List ℕ) → codes "-" ≡ encode_lower bytes → ⊥
no_bytes bytes e = let size : 1 ≡ length (encode_lower bytes) = ap length e in let twice = length-encode_with lower_digits bytes in omega arith

new_one : (x y : Option (List ℕ)) → IsNewContent x → IsNewContent y → new_text x ≡ new_text y → x ≡ y
new_one None None v w e = refl
new_one None (Some ys) v w e = absurd (no_bytes ys e)
new_one (Some xs) None v w e = absurd (no_bytes xs (sym e))
new_one (Some xs) (Some ys) v w e = ap Some (content_one xs ys v w e)

-- ---- events

placed_one : (nodes : ℕ) (f : TxnId → Addr → Event) (t u : TxnId) (a b : Addr) → IsTxn t → IsTxn u → IsTextAddr nodes a → IsTextAddr nodes b → txn_text t ++ 32 ∷ addr_text a ≡ txn_text u ++ 32 ∷ addr_text b → f t a ≡ f u b
placed_one nodes f t u a b vt vu va vb e =
    let parts = one_cut 32 (txn_text t) (addr_text a) (txn_text u) (addr_text b) (txn_clean t vt) (txn_clean u vu) e in
    both_same f t u a b (txn_one t u vt vu parts.0) (addr_one nodes a b va vb parts.1)

same_event : (nodes : ℕ) (e f : Event) → IsEvent nodes e → IsEvent nodes f → verb e ≡ verb f → arguments e ≡ arguments f → e ≡ f
same_event nodes (Load a xs) (Load b ys) v w first same =
    let parts = one_cut 32 (addr_text a) (encode_lower xs) (addr_text b) (encode_lower ys) (addr_clean nodes a (v.0.0, v.1.0)) (addr_clean nodes b (w.0.0, w.1.0)) same in
    both_same Load a b xs ys (addr_one nodes a b (v.0.0, v.1.0) (w.0.0, w.1.0) parts.0) (content_one xs ys (v.0.1, v.1.1) (w.0.1, w.1.1) parts.1)
same_event nodes (Load a xs) f v w first same = absurd (differ (codes "load") (verb f) first refl)
same_event nodes (Begin t) (Begin u) v w first same = ap Begin (txn_one t u v w same)
same_event nodes (Begin t) f v w first same = absurd (differ (codes "begin") (verb f) first refl)
same_event nodes (Read t a) (Read u b) v w first same = placed_one nodes Read t u a b (v.0.0, v.1.0) (w.0.0, w.1.0) (v.0.1, v.1.1) (w.0.1, w.1.1) same
same_event nodes (Read t a) f v w first same = absurd (differ (codes "read") (verb f) first refl)
same_event nodes (Alloc t n xs) (Alloc u m ys) v w first same =
    let parts = one_cut 32 (txn_text t) (decimal n ++ 32 ∷ encode_lower xs) (txn_text u) (decimal m ++ 32 ∷ encode_lower ys) (txn_clean t (v.0.0, v.1.0)) (txn_clean u (w.0.0, w.1.0)) same in
    let rest = one_cut 32 (decimal n) (encode_lower xs) (decimal m) (encode_lower ys) (node_clean nodes n (v.0.1, v.1.1)) (node_clean nodes m (w.0.1, w.1.1)) parts.1 in
    let n_small : n < 2 ^ 32 = v.1.1 in
    let m_small : m < 2 ^ 32 = w.1.1 in
    all_same Alloc t u n m xs ys (txn_one t u (v.0.0, v.1.0) (w.0.0, w.1.0) parts.0) (decimal_injective n m (omega arith) (omega arith) rest.0)
    (content_one xs ys (v.0.2, v.1.2) (w.0.2, w.1.2) rest.1)
same_event nodes (Alloc t n xs) f v w first same = absurd (differ (codes "alloc") (verb f) first refl)
same_event nodes (Lock t a x) (Lock u b y) v w first same =
    let parts = one_cut 32 (txn_text t) (addr_text a ++ 32 ∷ new_text x) (txn_text u) (addr_text b ++ 32 ∷ new_text y) (txn_clean t (v.0.0, v.1.0)) (txn_clean u (w.0.0, w.1.0)) same in
    let rest = one_cut 32 (addr_text a) (new_text x) (addr_text b) (new_text y) (addr_clean nodes a (v.0.1, v.1.1)) (addr_clean nodes b (w.0.1, w.1.1)) parts.1 in
    all_same Lock t u a b x y (txn_one t u (v.0.0, v.1.0) (w.0.0, w.1.0) parts.0) (addr_one nodes a b (v.0.1, v.1.1) (w.0.1, w.1.1) rest.0)
    (new_one x y (v.0.2, v.1.2) (w.0.2, w.1.2) rest.1)
same_event nodes (Lock t a x) f v w first same = absurd (differ (codes "lock") (verb f) first refl)
same_event nodes (Draw t) (Draw u) v w first same = ap Draw (txn_one t u v w same)
same_event nodes (Draw t) f v w first same = absurd (differ (codes "draw") (verb f) first refl)
same_event nodes (Check t a) (Check u b) v w first same = placed_one nodes Check t u a b (v.0.0, v.1.0) (w.0.0, w.1.0) (v.0.1, v.1.1) (w.0.1, w.1.1) same
same_event nodes (Check t a) f v w first same = absurd (differ (codes "check") (verb f) first refl)
same_event nodes (Put t a) (Put u b) v w first same = placed_one nodes Put t u a b (v.0.0, v.1.0) (w.0.0, w.1.0) (v.0.1, v.1.1) (w.0.1, w.1.1) same
same_event nodes (Put t a) f v w first same = absurd (differ (codes "put") (verb f) first refl)
same_event nodes (Unlock t a) (Unlock u b) v w first same = placed_one nodes Unlock t u a b (v.0.0, v.1.0) (w.0.0, w.1.0) (v.0.1, v.1.1) (w.0.1, w.1.1) same
same_event nodes (Unlock t a) f v w first same = absurd (differ (codes "unlock") (verb f) first refl)
same_event nodes (Shut t) (Shut u) v w first same = ap Shut (txn_one t u v w same)
same_event nodes (Shut t) f v w first same = absurd (differ (codes "shut") (verb f) first refl)
same_event nodes (Collect n) (Collect m) v w first same = ap Collect (decimal_injective n m (omega arith) (omega arith) same)
same_event nodes (Collect n) f v w first same = absurd (differ (codes "collect") (verb f) first refl)

event_one : (nodes : ℕ) (e f : Event) → IsEvent nodes e → IsEvent nodes f → event_text e ≡ event_text f → e ≡ f
event_one nodes e f v w same =
    let parts = one_cut 32 (verb e) (arguments e) (verb f) (arguments f) (verb_clean e) (verb_clean f) (sym (verb_first e) ∙ same ∙ verb_first f) in
    same_event nodes e f v w parts.0 parts.1

-- ---- texts

line_some : (e : Event) (rest : List ℕ) → 0 < length (event_line e ++ rest)
line_some e rest = let size = length-append (event_text e) (10 ∷ []) in omega (arith, length-append (event_text e ++ 10 ∷ []) rest)

-- two texts that begin with an event's line
same_line : (nodes : ℕ) (e f : Event) (xs ys : List ℕ) → IsEvent nodes e → IsEvent nodes f → event_line e ++ xs ≡ event_line f ++ ys → (event_text e ≡ event_text f) × (xs ≡ ys)
same_line nodes e f xs ys v w same = one_cut 10 (event_text e) xs (event_text f) ys (event_clean nodes e v) (event_clean nodes f w) (sym (line_first e xs) ∙ same ∙ line_first f ys)

pub same_events : (nodes : ℕ) (events others : List Event) → AllByRecursion (IsEvent nodes) events → AllByRecursion (IsEvent nodes) others → flat_map event_line events ≡ flat_map event_line others → events ≡ others
same_events nodes [] [] v w same = refl
same_events nodes [] (f ∷ others) v w same = let some = line_some f (flat_map event_line others) in let size = ap length same in absurd (omega arith)
same_events nodes (e ∷ events) [] v w same = let some = line_some e (flat_map event_line events) in let size = ap length same in absurd (omega arith)
same_events nodes (e ∷ events) (f ∷ others) v w same =
    let parts = same_line nodes e f (flat_map event_line events) (flat_map event_line others) v.0 w.0 same in
    both_same (λ x xs. x ∷ xs) e f events others (event_one nodes e f v.0 w.0 parts.0) (same_events nodes events others v.1 w.1 parts.1)

-- what is the text of these events begins, behind the lines of others, with an event's line or ends
pub not_broken : (nodes : ℕ) (events others : List Event) (text rest : List ℕ) → AllByRecursion (IsEvent nodes) events → text ≡ flat_map event_line events → BreaksAfter nodes text others rest → ⊥
not_broken nodes [] [] text rest v lines b = let size = ap length (sym lines ∙ b.lines) in let more = b.more in omega arith
not_broken nodes (e ∷ events) [] text rest v lines b = b.none e (flat_map event_line events) v.0 (sym b.lines ∙ lines)
not_broken nodes [] (f ∷ others) text rest v lines b =
    let start = line_some f (flat_map event_line others ++ rest) in
    let size = ap length (sym lines ∙ b.lines ∙ append_assoc (event_line f) (flat_map event_line others) rest) in
    omega arith
not_broken nodes (e ∷ events) (f ∷ others) text rest v lines b =
    let whole = sym lines ∙ b.lines ∙ append_assoc (event_line f) (flat_map event_line others) rest in
    let parts = same_line nodes e f (flat_map event_line events) (flat_map event_line others ++ rest) v.0 b.each.0 whole in
    not_broken nodes events others (flat_map event_line events) rest v.1 refl (record { each = b.each.1; lines = parts.1; more = b.more; none = b.none })
