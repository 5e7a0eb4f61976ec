-- A loop that makes one event on each node.
use Rattle.std.proofs.Common.{◌≡◌, ◌≢◌, ℕ, ◌+◌, ◌<◌, ◌≤◌, List, length, get_or, sym, ◌∙◌, subst, ⊎_elim, arith}
use Rattle.std.proofs.Math.ListN.{set}
use Rattle.std.proofs.lemmas.Bool.{cases_eq}
use Rattle.farm_core.proofs.Words.{Node, Entry, NodeState, Adds, plain_of, plains}
use Rattle.farm_core.proofs.NodeLists.{plains_index, plains_set, plains_other}

-- the nodes below the index have their entry more, and the others are as they were
pub record EachDone (makes : NodeState → Entry) (first : List Node) (i : ℕ) (nodes : List Node) : Type 0 where
  pub done : (n : ℕ) → n < i → Adds (plains first n) (makes (plains first n)) (plains nodes n)
  pub rest : (n : ℕ) → i ≤ n → plains nodes n ≡ plains first n

module _ (makes : NodeState → Entry) (first : List Node) (i : ℕ) (nodes : List Node) (low : i < length nodes) (d : Node) (each : EachDone makes first i nodes) where
  pub next_is : plain_of (get_or nodes i d) ≡ plains first i
  next_is = plains_index nodes i d low ∙ each.rest i (omega arith)

  pub each_more : (v : Node) → Adds (plain_of (get_or nodes i d)) (makes (plain_of (get_or nodes i d))) (plain_of v) → EachDone makes first (i + 1) (set nodes i v)
  each_more v adds = record {
    done = λ n less. ⊎_elim
        (λ (same : i ≡ n). subst (λ (m : ℕ). Adds (plains first m) (makes (plains first m)) (plains (set nodes i v) m)) same
        (subst (λ (z : NodeState × NodeState). Adds z.0 (makes z.0) z.1) (λ j. (next_is j, sym (plains_set nodes i v low) j)) adds))
        (λ (differ : i ≢ n). let before : n < i = omega arith in
        subst (λ (p : NodeState). Adds (plains first n) (makes (plains first n)) p) (sym (plains_other nodes i n v differ)) (each.done n before))
        (cases_eq i n);
    rest = λ n le. plains_other nodes i n v (λ (same : i ≡ n). omega arith) ∙ each.rest n (omega arith);
  }
