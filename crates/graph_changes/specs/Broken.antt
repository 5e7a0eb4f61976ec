-- Bytes that are no changes.
use Rattle.std.specs.Prelude.{◌≡◌, ℕ, ◌<◌, List, ◌++◌, length, Result, Ok, Err, ⊤}
use Rattle.type_schema.specs.declared.rows.Change.{Change}
use Rattle.type_schema.specs.Layout.{change_bytes, changes_bytes}
use Rattle.type_schema.specs.Formed.{HasForm, AreChanges}
use Rattle.graph_changes.specs.declared.fault.ChangeFault.{ChangeFault}
use Rattle.graph_changes.specs.declared.fault.ChangeFault.TheVariants.{Bad, Memory}

-- the bytes begin with no change
abbrev pub NoChange : List ℕ → Type 0
NoChange bytes = (change : Change) (rest : List ℕ) → HasForm change → bytes ≡ change_bytes change ++ rest → ⊥

-- behind some changes, at this place, what is left begins with no change
pub record BreaksAt (bytes : List ℕ) (at : ℕ) : Type 0 where
  pub changes : List Change
  pub rest : List ℕ
  pub each : AreChanges changes
  pub parts : bytes ≡ changes_bytes changes ++ rest
  pub place : at ≡ length (changes_bytes changes)
  pub more : 0 < length rest
  pub none : NoChange rest

-- why the bytes are no changes
abbrev pub IsChangeFault : List ℕ → ChangeFault → Type 0
IsChangeFault bytes (Bad at) = BreaksAt bytes at
IsChangeFault bytes Memory = ⊤

-- these changes were read, unless memory was wanting
abbrev pub Gives : Result (List Change) ChangeFault → List Change → Type 0
Gives (Ok changes) wanted = wanted ≡ changes
Gives (Err (Bad at)) wanted = ⊥
Gives (Err Memory) wanted = ⊤
