-- What was read besides, composed and weakened.
use Rattle.std.proofs.Common.{List, [], ◌∷◌, ◌++◌, ◌∙◌, ap, append_assoc}
use Rattle.std.specs.List.{AllByRecursion}
use Rattle.a1_base.specs.declared.place.Addr.{Addr}
use Rattle.object_view.specs.Agreement.{Seen}
use Rattle.object_view.specs.Parts.{ReadsOnly}

pub all_join : {A : Type 0} (P : A → Type 0) (xs ys : List A) → AllByRecursion P xs → AllByRecursion P ys
    → AllByRecursion P (xs ++ ys)
all_join P [] ys p q = q
all_join P (x ∷ xs) ys p q = (p.0, all_join P xs ys p.1 q)

all_weaker : (P Q : Addr → Type 0) → ((a : Addr) → P a → Q a) → (xs : List Seen)
    → AllByRecursion (λ (s : Seen). P s.at) xs → AllByRecursion (λ (s : Seen). Q s.at) xs
all_weaker P Q f [] p = tt
all_weaker P Q f (x ∷ xs) p = (f x.at p.0, all_weaker P Q f xs p.1)

pub reads_weaker : (P Q : Addr → Type 0) (old new : List Seen) → ((a : Addr) → P a → Q a) → ReadsOnly P old new
    → ReadsOnly Q old new
reads_weaker P Q old new f r = record { reads = r.reads; grown = r.grown; among = all_weaker P Q f r.reads r.among }

pub reads_then : (P : Addr → Type 0) (old mid new : List Seen) → ReadsOnly P old mid → ReadsOnly P mid new
    → ReadsOnly P old new
reads_then P old mid new p q = record {
  reads = p.reads ++ q.reads;
  grown = q.grown ∙ ap (λ (t : List Seen). t ++ q.reads) p.grown ∙ append_assoc old p.reads q.reads;
  among = all_join (λ (s : Seen). P s.at) p.reads q.reads p.among q.among;
}
