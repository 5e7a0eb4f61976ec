-- Changes read one behind the other.
use Rattle.std.proofs.Common.{◌≡◌, ℕ, ◌-◌, ◌<◌, List, [], ◌∷◌, ◌++◌, length, Some, None, refl, sym, ap, subst, ◌∙◌, arith, append_assoc, append-nil, length-append}
use Rattle.std.specs.Prelude.{IfOk, IfErr, Result, Ok, Err}
use Rattle.std.proofs.lemmas.List.Concat.{flat_map-append}
use Rattle.std.proofs.lemmas.Option.{same_Some, none-some}
use Rattle.a1_base.specs.Fronts.{IsBytes}
use Rattle.a1_base.proofs.Exact.{bytes_behind}
use Rattle.type_schema.specs.declared.rows.Change.{Change}
use Rattle.type_schema.specs.Layout.{change_bytes, changes_bytes}
use Rattle.type_schema.specs.Formed.{HasForm, AreChanges}
use Rattle.graph_changes.specs.declared.fault.ChangeFault.{ChangeFault}
use Rattle.graph_changes.specs.declared.fault.ChangeFault.TheVariants.{Bad, Memory}
use Rattle.graph_changes.specs.Reading.{change_front}
use Rattle.graph_changes.specs.Broken.{NoChange, BreaksAt, IsChangeFault, Gives}
use Rattle.graph_changes.proofs.RowLemmas.{change_exact}

-- ---- one change more

formed_more : (changes : List Change) (c : Change) → AreChanges changes → HasForm c → AreChanges (changes ++ c ∷ [])
formed_more [] c each h = (h, tt)
formed_more (x ∷ changes) c each h = (each.0, formed_more changes c each.1 h)

-- the changes so far are the bytes in front of what is left
pub record SoFar (bytes : List ℕ) (changes : List Change) (rest : List ℕ) : Type 0 where
  pub each : AreChanges changes
  pub parts : bytes ≡ changes_bytes changes ++ rest

left : (bytes : List ℕ) (changes : List Change) (rest : List ℕ) → IsBytes bytes → SoFar bytes changes rest → IsBytes rest
left bytes changes rest fits so_far = bytes_behind (changes_bytes changes) rest (subst IsBytes so_far.parts fits)

pub goes_on : (bytes : List ℕ) (changes : List Change) (rest : List ℕ) (c : Change) (after : List ℕ) → IsBytes bytes → change_front rest ≡ Some (c, after) → SoFar bytes changes rest → SoFar bytes (changes ++ c ∷ []) after
goes_on bytes changes rest c after fits found so_far =
    let one = change_exact.takes rest (c, after) (left bytes changes rest fits so_far) found in
    let more : changes_bytes (changes ++ c ∷ []) ≡ changes_bytes changes ++ change_bytes c = flat_map-append change_bytes changes (c ∷ []) ∙ ap (λ z. changes_bytes changes ++ z) (append-nil (change_bytes c)) in
    record {
      each = formed_more changes c so_far.each one.0;
      parts = so_far.parts ∙ (ap (λ z. changes_bytes changes ++ z) one.1 ∙ (sym (append_assoc (changes_bytes changes) (change_bytes c) after) ∙ ap (λ z. z ++ after) (sym more)));
    }

-- what is left is less
pub shorter : (bytes : List ℕ) (changes : List Change) (rest : List ℕ) (c : Change) (after : List ℕ) → IsBytes bytes → change_front rest ≡ Some (c, after) → SoFar bytes changes rest → length after < length rest
shorter bytes changes rest c after fits found so_far =
    let one = change_exact.takes rest (c, after) (left bytes changes rest fits so_far) found in
    let whole = ap length one.1 in
    let sum = length-append (change_bytes c) after in
    omega (arith, whole, sum)

pub breaks : (bytes : List ℕ) (changes : List Change) (rest : List ℕ) → 0 < length rest → change_front rest ≡ None → SoFar bytes changes rest → BreaksAt bytes (length bytes - length rest)
breaks bytes changes rest more none so_far = record {
  changes = changes;
  rest = rest;
  each = so_far.each;
  parts = so_far.parts;
  place = let sum = ap length so_far.parts ∙ length-append (changes_bytes changes) rest in omega (arith, sum);
  more = more;
  none = λ c after h e. none-some (c, after) (sym none ∙ (ap change_front e ∙ change_exact.again c after h));
}

-- ---- one reading

nothing : (c : Change) (rest : List ℕ) → [] ≡ change_bytes c ++ rest → ⊥
nothing c rest e = cc

-- the changes behind those that the bytes begin with
record Behind (front all : List Change) (rest : List ℕ) : Type 0 where
  more : List Change
  parts : all ≡ front ++ more
  each : AreChanges more
  bytes : rest ≡ changes_bytes more

behind : (front all : List Change) (rest : List ℕ) → AreChanges front → AreChanges all → changes_bytes all ≡ changes_bytes front ++ rest → Behind front all rest
behind [] all rest f a e = record { more = all; parts = refl; each = a; bytes = sym e }
behind (c ∷ front) [] rest f a e = absurd (nothing c (changes_bytes front ++ rest) (e ∙ append_assoc (change_bytes c) (changes_bytes front) rest))
behind (c ∷ front) (d ∷ all) rest f a e =
    let joined : change_bytes d ++ changes_bytes all ≡ change_bytes c ++ (changes_bytes front ++ rest) = e ∙ append_assoc (change_bytes c) (changes_bytes front) rest in
    let two : Some (d, changes_bytes all) ≡ Some (c, changes_bytes front ++ rest) = sym (change_exact.again d (changes_bytes all) a.0) ∙ (ap change_front joined ∙ change_exact.again c (changes_bytes front ++ rest) f.0) in
    let same : (d, changes_bytes all) ≡ (c, changes_bytes front ++ rest) = same_Some (d, changes_bytes all) (c, changes_bytes front ++ rest) two in
    let more = behind front all rest f.1 a.1 (ap (λ (p : Change × List ℕ). p.1) same) in
    let first : d ≡ c = ap (λ (p : Change × List ℕ). p.0) same in
    record { more = more.more; parts = ap (λ x. x ∷ all) first ∙ ap (λ z. c ∷ z) more.parts; each = more.each; bytes = more.bytes }

ended : (more : List Change) → [] ≡ changes_bytes more → more ≡ []
ended [] e = refl
ended (c ∷ more) e = absurd (nothing c (changes_bytes more) e)

broken : (more : List Change) (rest : List ℕ) → AreChanges more → rest ≡ changes_bytes more → 0 < length rest → NoChange rest → ⊥
broken [] rest each e some none = let k = ap length e in omega (arith, k)
broken (c ∷ more) rest each e some none = none c (changes_bytes more) each.0 e

-- what is spelled so is read, where what is read is spelled so and what is refused breaks off
pub only : (bytes : List ℕ) (r : Result (List Change) ChangeFault) → IfOk r (λ changes. AreChanges changes × (bytes ≡ changes_bytes changes)) → IfErr r (IsChangeFault bytes)
    → (all : List Change) → AreChanges all → bytes ≡ changes_bytes all → Gives r all
only bytes (Ok changes) found bad all each e =
    let two = behind changes all [] found.0 each (sym e ∙ (found.1 ∙ sym (append-nil (changes_bytes changes)))) in
    two.parts ∙ (ap (λ z. changes ++ z) (ended two.more two.bytes) ∙ append-nil changes)
only bytes (Err Memory) found bad all each e = tt
only bytes (Err (Bad at)) found bad all each e =
    let two = behind bad.changes all bad.rest bad.each each (sym e ∙ bad.parts) in
    broken two.more bad.rest two.each two.bytes bad.more bad.none
