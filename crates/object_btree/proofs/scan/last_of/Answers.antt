use Rattle.std.proofs.Common.{◌≡◌, ◌<◌, ◌++◌, List, length, ℕ, [], ◌∷◌, sym, ap, subst, ◌∙◌, arith, append_assoc}
use Rattle.std.proofs.lemmas.List.{append-nil}
use Rattle.std.specs.List.{AllByRecursion}
use Rattle.object_view.specs.Layout.{Entry, IsEntry, entries}
use Rattle.object_view.proofs.Layouts.{none_left, some_left, Left, none_more}
use Rattle.object_btree.proofs.Routes.{over_entry}
use Rattle.object_btree.proofs.Takes.{OneOnly, one_only, MoreOf, more_of}
use Rattle.object_btree.proofs.scan.last_of.Goals as goal

long_more : (after : List ℕ) (more : List Entry) → after ≡ entries more → 0 < length after → 0 < length more
long_more after [] e h = let z : length after ≡ 0 = ap length e in absurd (omega (arith, z, h))
long_more after (m ∷ ms) e h = omega arith

pub returns-in-None : goal.returns-in-None
returns-in-None c low e fits h = let l = c.each.invariant low e fits h in
    none_left _ (l.1 ++ e ∷ []) l.5 l.4 c.each-test.true c.in-None.ensures.tells

pub returns-then-after-eq0 : goal.returns-then-after-eq0
returns-then-after-eq0 c low e fits h =
    let l = c.each.invariant low e fits h in
    let x : Entry = record { key = c.in-Some.key.now; word = c.in-Some.word } in
    let left : Left (l.1 ++ e ∷ []) (record { key = c.in-Some.key.now; word = c.in-Some.word }) c.in-Some.after.now =
    some_left _ (l.1 ++ e ∷ []) (record { key = c.in-Some.key.now; word = c.in-Some.word }) _ l.5 l.4 c.each-test.true
    c.in-Some.ensures.tells in
    let z = c.if-after-eq0.true in
    let none : left.more ≡ [] = none_more _ left.more left.spelled (omega (arith, z)) in
    let one : OneOnly l.1 e (record { key = c.in-Some.key.now; word = c.in-Some.word }) =
    one_only l.1 e (record { key = c.in-Some.key.now; word = c.in-Some.word }) (left.are
    ∙ ap (λ (t : List Entry). record { key = c.in-Some.key.now; word = c.in-Some.word } ∷ t) none) in
    let low_is : low ≡ l.0 = l.2 ∙ ap (λ (t : List Entry). l.0 ++ t) one.none ∙ append-nil l.0 in (
      c.front_of.ensures (entries l.0) l.3 ∙ ap entries (sym low_is),
      ap (λ (t : Entry). t.key) (sym one.same),
      ap (λ (t : Entry). t.word) (sym one.same),
    )

pub each-preserved : goal.each-preserved
each-preserved c low e fits h =
    let l = c.each.invariant low e fits h in
    let left : Left (l.1 ++ e ∷ []) (record { key = c.in-Some.key.now; word = c.in-Some.word }) c.in-Some.after.now =
    some_left _ (l.1 ++ e ∷ []) (record { key = c.in-Some.key.now; word = c.in-Some.word }) _ l.5 l.4 c.each-test.true
    c.in-Some.ensures.tells in
    let z = c.if-after-eq0.false in
    let m : MoreOf l.1 e (record { key = c.in-Some.key.now; word = c.in-Some.word }) left.more =
    more_of l.1 e (record { key = c.in-Some.key.now; word = c.in-Some.word }) left.more left.are
    (long_more _ left.more left.spelled (omega (arith, z))) in (
      l.0 ++ record { key = c.in-Some.key.now; word = c.in-Some.word } ∷ [],
      m.rest,
      l.2 ∙ ap (λ (t : List Entry). l.0 ++ t) m.are
          ∙ sym (append_assoc l.0 (record { key = c.in-Some.key.now; word = c.in-Some.word } ∷ []) m.rest),
      over_entry l.0 _ _ (l.1 ++ e ∷ []) (record { key = c.in-Some.key.now; word = c.in-Some.word }) _ l.3 l.4 left,
      left.spelled ∙ ap entries m.more_is,
      subst (λ (t : List Entry). AllByRecursion IsEntry t) m.more_is left.fit,
    )
