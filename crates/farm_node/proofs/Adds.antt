-- What an entry adds to a story, said once, for every list of entries.
use Rattle.farm_node.proofs.Common.{◌≡◌, ℕ, cond, List, [], ◌∷◌, Some, Ok, refl, ◌∙◌, subst, ⊎_elim, cond-true, cond-false, cases_Bool, Addr, TxnId, same_addr}
use Rattle.farm_node.proofs.Common.{Entry, Alloc, Lock, Put, Given, gives, Story, with_given, with_put, story_after, story_from, number_of}
use Rattle.farm_node.proofs.Chains.{BelowAll}

-- nothing, what a transaction gives, or a put; by the entry's own actor
pub data Adding (a : Addr) (e : Entry) : Type 0 where
  nothing : ((h : Story) → story_after a h e ≡ h) → Adding a e
  giving : (t : TxnId) (g : Given) → t.actor ≡ number_of e → ((h : Story) → story_after a h e ≡ with_given t g h) → Adding a e
  putting : (t : TxnId) (w : ℕ) → t.actor ≡ number_of e → ((h : Story) → story_after a h e ≡ with_put t w h) → Adding a e

when_here : (a b : Addr) (e : Entry) (f : Story → Story) → ((h : Story) → story_after a h e ≡ cond (same_addr b a) (f h) h)
    → (((h : Story) → story_after a h e ≡ f h) → Adding a e) → Adding a e
when_here a b e f is adds = ⊎_elim (λ yes. adds (λ h. is h ∙ cond-true (same_addr b a) (f h) h yes)) (λ other. nothing (λ h. is h ∙ cond-false (same_addr b a) (f h) h other)) (cases_Bool (same_addr b a))

pub adding : (a : Addr) (e : Entry) → Adding a e
adding a (Alloc t r v placed) = when_here a placed.at _ (with_given t (gives r (Some v))) (λ h. refl) (λ is. giving t (gives r (Some v)) refl is)
adding a (Lock t b r new (Ok locked)) = when_here a b _ (with_given t (gives r new)) (λ h. refl) (λ is. giving t (gives r new) refl is)
adding a (Put t b w) = when_here a b _ (with_put t w) (λ h. refl) (λ is. putting t w refl is)
adding a e = nothing (λ h. refl)

-- puts that are all at most n in the end are so at each point before
pub below_before : (a : Addr) (n : ℕ) (h : Story) (es : List Entry) → BelowAll n (story_from a h es).puts → BelowAll n h.puts
below_before a n h [] low = low
below_before a n h (e ∷ es) low = by (adding a e) (below_before a n (story_after a h e) es low) where
  by : Adding a e → BelowAll n (story_after a h e).puts → BelowAll n h.puts
  by (nothing is) low = subst (λ (z : Story). BelowAll n z.puts) (is h) low
  by (giving t g own is) low = let x : BelowAll n (with_given t g h).puts = subst (λ (z : Story). BelowAll n z.puts) (is h) low in x
  by (putting t w own is) low = let x : BelowAll n (with_put t w h).puts = subst (λ (z : Story). BelowAll n z.puts) (is h) low in x.1
