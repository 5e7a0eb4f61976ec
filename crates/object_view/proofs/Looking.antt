-- What a read tells of every heap that agrees with the later view.
use Rattle.std.proofs.Common.{◌≡◌, ℕ, List, [], ◌∷◌, ◌++◌, Option, Some, None, refl, ap, sym, subst, ◌∙◌}
use Rattle.std.specs.Prelude.{IsSome}
use Rattle.std.specs.List.{AllByRecursion}
use Rattle.a1_base.specs.declared.place.Addr.{Addr}
use Rattle.object_view.specs.declared.view.Object.{Object}
use Rattle.object_view.specs.Agreement.{Seen, Write, Heap, Overlay, Agrees, IsSeenIn, bytes_of, covered, stood}
use Rattle.object_view.specs.Calls.{ReadTells, StandsIn, noted}
use Rattle.object_view.specs.Parts.{ReadsOnly}
use Rattle.std.proofs.lemmas.List.{append-nil}

front : (h : Heap) (xs ys : List Seen) → AllByRecursion (IsSeenIn h) (xs ++ ys) → AllByRecursion (IsSeenIn h) xs
front h [] ys p = tt
front h (x ∷ xs) ys p = (p.0, front h xs ys p.1)

back : (h : Heap) (xs ys : List Seen) → AllByRecursion (IsSeenIn h) (xs ++ ys) → AllByRecursion (IsSeenIn h) ys
back h [] ys p = p
back h (x ∷ xs) ys p = back h xs ys p.1

noted_there : (h : Heap) (a : Addr) (stamp : ℕ) (found : Option Object)
    → AllByRecursion (IsSeenIn h) (noted a stamp found ∷ []) → found ≡ h a
noted_there h a stamp None p = sym p.0
noted_there h a stamp (Some o) p = sym p.0

found_in : (h : Heap) (w : Option Write) (a : Addr) (old new : List Seen) (found : Option Object)
    → ReadTells w a old new found
    → AllByRecursion (IsSeenIn h) new → (found ≡ covered w (h a)) × AllByRecursion (IsSeenIn h) old
found_in h (Some w) a old new found told p = (told.1, subst (AllByRecursion (IsSeenIn h)) told.0 p)
found_in h None a old new found (stamp, e) p =
    let q : AllByRecursion (IsSeenIn h) (old ++ noted a stamp found ∷ []) = subst (AllByRecursion (IsSeenIn h)) e p in
    (noted_there h a stamp found (back h old _ q), front h old _ q)

pub read_found : (h : Heap) (old new : List Seen) (before after : Overlay) (a : Addr) (found : Option Object)
    → after ≡ before
    → ReadTells (before a) a old new found → Agrees h new after → bytes_of found ≡ stood h before a
read_found h old new before after a found same told agrees = ap bytes_of (found_in h
    (before a) a old new found told agrees.seen).0

pub read_agrees : (h : Heap) (old new : List Seen) (before after : Overlay) (a : Addr) (found : Option Object)
    → after ≡ before
    → ReadTells (before a) a old new found → Agrees h new after → Agrees h old before
read_agrees h old new before after a found same told agrees =
    let later : Agrees h new before = subst (λ (o : Overlay). Agrees h new o) same agrees in
    record { seen = (found_in h (before a) a old new found told later.seen).1; room = later.room }

pub same_agrees : (h : Heap) (old new : List Seen) (before after : Overlay) → new ≡ old → after ≡ before
    → Agrees h new after → Agrees h old before
same_agrees h old new before after e f agrees = rw (← e, ← f) agrees

pub read_stands : (old new : List Seen) (before after : Overlay) (a : Addr) (o : Object) → after ≡ before
    → ReadTells (before a) a old new (Some o) → StandsIn new after a
read_stands old new before after a o same told h agrees =
    let there : Some o.bytes ≡ stood h before a = read_found h old new before after a (Some o) same told agrees in
    subst IsSome (there ∙ ap (λ (over : Overlay). stood h over a) (sym same)) refl

noted_at : (a : Addr) (stamp : ℕ) (found : Option Object) → (noted a stamp found).at ≡ a
noted_at a stamp None = refl
noted_at a stamp (Some o) = refl

pub reads_none : (P : Addr → Type 0) (old new : List Seen) → new ≡ old → ReadsOnly P old new
reads_none P old new same = record { reads = []; grown = same ∙ sym (append-nil old); among = tt }

reads_in : (w : Option Write) (a : Addr) (old new : List Seen) (found : Option Object)
    → ReadTells w a old new found → ReadsOnly (λ b. b ≡ a) old new
reads_in (Some w) a old new found told = reads_none (λ b. b ≡ a) old new told.0
reads_in None a old new found (stamp, e) =
    record { reads = noted a stamp found ∷ []; grown = e; among = (noted_at a stamp found, tt) }

pub read_only : (over : Overlay) (a : Addr) (old new : List Seen) (found : Option Object)
    → ReadTells (over a) a old new found → ReadsOnly (λ b. b ≡ a) old new
read_only over a old new found told = reads_in (over a) a old new found told

pub ruleset read_rules = (read_found, read_stands, read_agrees, same_agrees, reads_none, read_only)
