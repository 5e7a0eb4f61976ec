-- Entries in one node or in two.
use Rattle.std.proofs.Common.{◌≡◌, ℕ, zero, suc, ◌+◌, ◌*◌, ◌/◌, ◌%◌, ◌^◌, ◌<◌, ◌≤◌, Bool, true, List, [], ◌∷◌, ◌++◌, length, take, drop, Some, None, refl, sym, ap, subst, ◌∙◌, arith}
use Rattle.std.specs.Int.{w16, w64, to_be_bytes}
use Rattle.std.specs.List.{AllByRecursion}
use Rattle.std.proofs.lemmas.List.{length-append}
use Rattle.std.proofs.lemmas.Nat.{div-mul-add, mod-mul-add}
use Rattle.a1_base.specs.declared.place.Addr.{Addr}
use Rattle.object_view.specs.Agreement.{State}
use Rattle.object_view.specs.Layout.{Entry, IsEntry, entry, entries, entry_at, addr_of, word_of, object_bytes}
use Rattle.object_btree.specs.Steps.{Halved}
use Rattle.object_view.proofs.Layouts.{Left, some_left}
use Rattle.object_btree.proofs.Paths.{all_left, all_right}

entry_size : (e : Entry) → IsEntry e → length (entry e) ≤ 1110
entry_size e fits =
    let k : length e.key ≤ 1100 = fits.key in
    let two : length (to_be_bytes w16 (length e.key)) ≡ 2 = refl in
    let eight : length (to_be_bytes w64 e.word) ≡ 8 = refl in
    omega (
      arith,
      k,
      two,
      eight,
      length-append (to_be_bytes w16 (length e.key)) (e.key ++ to_be_bytes w64 e.word),
      length-append e.key (to_be_bytes w64 e.word),
    )

pub size : (es : List Entry) → AllByRecursion IsEntry es → length (entries es) ≤ 1110 * length es
size [] f = omega arith
size (e ∷ es) f =
    let a = entry_size e f.0 in
    let b = size es f.1 in
    let c = length-append (entry e) (entries es) in
    let d : length (e ∷ es) ≡ suc (length es) = refl in
    omega (arith, a, b, c, d)

take_drop : {A : Type 0} (n : ℕ) (xs : List A) → take n xs ++ drop n xs ≡ xs
take_drop zero xs = refl
take_drop (suc n) [] = refl
take_drop (suc n) (x ∷ xs) = ap (λ t. x ∷ t) (take_drop n xs)

take_long : {A : Type 0} (n : ℕ) (xs : List A) → n ≤ length xs → length (take n xs) ≡ n
take_long zero xs h = refl
take_long (suc n) [] h = absurd (omega arith)
take_long (suc n) (x ∷ xs) h = ap suc (take_long n xs (omega arith))

pub record Cutting (es : List Entry) (half : ℕ) (left right key : List ℕ) : Type 0 where
  pub low : List Entry
  pub here : Entry
  pub high : List Entry
  pub are : es ≡ low ++ here ∷ high
  pub low_long : length low ≡ half
  pub high_long : half + length (here ∷ high) ≡ length es
  pub key_is : key ≡ here.key
  pub left_is : left ≡ entries low
  pub right_is : right ≡ entries (here ∷ high)
  pub left_fits : AllByRecursion IsEntry low
  pub right_fits : AllByRecursion IsEntry (here ∷ high)

some_drop : (es : List Entry) (half : ℕ) → half < length es → 0 < length (drop half es)
some_drop es half h =
    let a : length (take half es ++ drop half es) ≡ length es = ap length (take_drop half es) in
    let b : length (take half es) ≡ half = take_long half es (omega arith) in
    omega (arith, a, b, length-append (take half es) (drop half es))

entries_some : (fs : List Entry) → 0 < length fs → 0 < length (entries fs)
entries_some [] h = absurd (omega arith)
entries_some (e ∷ es) h =
    let two : length (to_be_bytes w16 (length e.key)) ≡ 2 = refl in
    omega (
      arith,
      two,
      length-append (entry e) (entries es),
      length-append (to_be_bytes w16 (length e.key)) (e.key ++ to_be_bytes w64 e.word),
    )

pub right_long : (es : List Entry) (half : ℕ) (right : List ℕ) → half < length es → right ≡ entries (drop half es)
    → 0 < length right
right_long es half right h e =
    let a = entries_some (drop half es) (some_drop es half h) in
    let b : length right ≡ length (entries (drop half es)) = ap length e in
    omega (arith, a, b)

pub right_fit : (es : List Entry) (half : ℕ) → AllByRecursion IsEntry es → AllByRecursion IsEntry (drop half es)
right_fit es half fits = all_right IsEntry (take half es) (drop half es)
    (subst (λ (t : List Entry). AllByRecursion IsEntry t) (sym (take_drop half es)) fits)

pub cutting : (es : List Entry) (half : ℕ) (left right key : List ℕ) (word : ℕ) (after : List ℕ)
    → AllByRecursion IsEntry es → half < length es → left ≡ entries (take half es) → right ≡ entries (drop half es)
    → entry_at right ≡ Some (record { key = key; word = word }, after) → Cutting es half left right key
cutting es half left right key word after fits short l r some =
    let all : AllByRecursion IsEntry (take half es ++ drop half es) =
    subst (λ (t : List Entry). AllByRecursion IsEntry t) (sym (take_drop half es)) fits in
    let rf : AllByRecursion IsEntry (drop half es) = all_right IsEntry (take half es) (drop half es) all in
    let m : Left (drop half es) (record { key = key; word = word }) after =
    some_left right (drop half es) (record { key = key; word = word }) after rf r (right_long es half right short r)
    some in
    let t : length (take half es) ≡ half = take_long half es (omega arith) in
    let a : length (take half es ++ drop half es) ≡ length es = ap length (take_drop half es) in
    let d : length (drop half es) ≡ length (record { key = key; word = word } ∷ m.more) = ap length m.are in
    record {
      low = take half es;
      here = record { key = key; word = word };
      high = m.more;
      are = sym (take_drop half es) ∙ ap (λ (x : List Entry). take half es ++ x) m.are;
      low_long = t;
      high_long = omega (arith, t, a, d, length-append (take half es) (drop half es));
      key_is = refl;
      left_is = l;
      right_is = r ∙ ap entries m.are;
      left_fits = all_left IsEntry (take half es) (drop half es) all;
      right_fits = subst (λ (x : List Entry). AllByRecursion IsEntry x) m.are rf;
    }

pub small : (es : List Entry) (body : List ℕ) → AllByRecursion IsEntry es → body ≡ entries es → length es ≤ 32
    → length body ≤ 65000
small es body fits e few = let a = size es fits in let b : length body ≡ length (entries es) = ap length e in
    omega (arith, a, b)

pub home_again : (a : Addr) (w : ℕ) → w ≡ word_of a → a.offset < 4096 → addr_of w ≡ a
home_again a w e h =
    let p : a.offset < 4294967296 = omega (arith, h) in
    let d : w / 4294967296 ≡ a.region = ap (λ (x : ℕ). x / 4294967296) e ∙ div-mul-add a.region 4294967296 a.offset p in
    let m : w % 4294967296 ≡ a.offset = ap (λ (x : ℕ). x % 4294967296) e ∙ mod-mul-add a.region 4294967296 a.offset p in
    ap (λ (x : ℕ). record { region = x; offset = w % 4294967296 }) d
    ∙ ap (λ (x : ℕ). record { region = a.region; offset = x }) m

pub halved : (R : Addr → Bool) (s u t : State) (owner : ℕ) (at to : Addr) (es : List Entry) (left right key k : List ℕ)
    (half w : ℕ) → (c : Cutting es half left right key) → k ≡ key → w < 2 ^ 64 → w ≡ word_of to → to.offset < 4096
    → 32 < length es → 16 ≤ half → half ≤ 32 → half + 16 ≤ length es → length es ≤ half + 32 → R to ≡ true
    → (s at ≡ None → ⊥) → s to ≡ None → u to ≡ Some (object_bytes 3 owner right)
    → ((b : Addr) → (b ≡ to → ⊥) → u b ≡ s b) → t at ≡ Some (object_bytes 3 owner left)
    → ((b : Addr) → (b ≡ at → ⊥) → t b ≡ u b) → Halved R s t owner at es (record { key = k; word = w })
halved R s u t owner at to es left right key k half w c ke wf we off over low high more few reached stood fresh made
    first put second =
    let e : addr_of w ≡ to = home_again to w we off in
    let other : to ≡ at → ⊥ = λ q. stood (ap s (sym q) ∙ fresh) in
    let len : half + length (c.here ∷ c.high) ≡ length es = c.high_long in
    let l : length c.low ≡ half = c.low_long in
    record {
      left = c.low;
      here = c.here;
      right = c.high;
      over = over;
      are = c.are;
      key_is = ke ∙ c.key_is;
      left_at = put ∙ ap (λ (b : List ℕ). Some (object_bytes 3 owner b)) c.left_is;
      right_at = ap t e ∙ second to other ∙ made ∙ ap (λ (b : List ℕ). Some (object_bytes 3 owner b)) c.right_is;
      left_many = omega (arith, l, low);
      left_few = omega (arith, l, high);
      right_many = omega (arith, len, more);
      right_few = omega (arith, len, few);
      word_fits = wf;
      reached = ap R e ∙ reached;
      fresh = ap s e ∙ fresh;
      frame = λ b n m. second b n ∙ first b (λ q. m (q ∙ sym e));
    }
