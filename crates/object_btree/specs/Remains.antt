-- What is left of a tree that is being taken away.
use Rattle.std.specs.Prelude.{◌≡◌, ◌⊎◌, ℕ, zero, suc, ◌+◌, ◌%◌, ◌<◌, ◌^◌, ◌≤◌, Bool, true, false, List, [], ◌∷◌, ◌++◌, length, Option, Some, None, Result, Ok, Err, ⊤}
use Rattle.a1_base.specs.Lists.{IsAmong}
use Rattle.a1_base.specs.declared.place.Addr.{Addr}
use Rattle.object_view.specs.Agreement.{State}
use Rattle.object_view.specs.declared.parts.PartFault.{PartFault}
use Rattle.object_view.specs.declared.parts.PartFault.TheVariants as part
use Rattle.object_view.specs.Layout.{Entry, addr_of, word_of, head_at, anchor_bytes}
use Rattle.object_view.specs.Parts.{Moves}
use Rattle.object_view.specs.Trees.{Node, Distinct, is_on}

-- the place was freed: nothing is there, or no node of this owner
pub record Lost (R : Addr → Bool) (s : State) (owner : ℕ) (at : Addr) : Type 0 where
  pub reached : R at ≡ true
  pub other : (b rest : List ℕ) → s at ≡ Some b → head_at 3 b ≡ Some (owner, rest) → ⊥

-- entries that name parts, whose places follow one another
abbrev pub Each : (ℕ → List Addr → Type 0) → List Entry → List Addr → Type 0
Each P [] ps = ps ≡ []
Each P (e ∷ es) ps = (here : List Addr) × (there : List Addr) × (ps ≡ here ++ there) × P e.word here × Each P es there

-- a node that still stands, with any number of entries
abbrev pub Standing : (Addr → Bool) → State → ℕ → Addr → List Entry → Type 0
Standing R s owner at es = Node R s owner 0 at es

-- what is left below a word, at these places: nothing, or the node and what is left below its entries
abbrev pub Remains : (Addr → Bool) → State → ℕ → ℕ → ℕ → List Addr → Type 0
Remains R s owner zero word ps =
    ((ps ≡ []) × Lost R s owner (addr_of word))
    ⊎ ((es : List Entry) × Standing R s owner (addr_of word) es × (ps ≡ addr_of word ∷ []))
Remains R s owner (suc d) word ps =
    ((ps ≡ []) × Lost R s owner (addr_of word))
    ⊎ ((es : List Entry) × (below : List Addr) × Standing R s owner (addr_of word) es × (ps ≡ addr_of word ∷ below)
    × Each (Remains R s owner d) es below)

-- an anchor, and what is left of the tree below it, at these places
pub record IsLeft (R : Addr → Bool) (s : State) (anchor : Addr) (ps : List Addr) : Type 0 where
  pub owner : ℕ
  pub root : ℕ
  pub height : ℕ
  pub owner_fits : owner < 2 ^ 64
  pub root_fits : root < 2 ^ 64
  pub low : height ≤ 15
  pub reached : R anchor ≡ true
  pub bytes : s anchor ≡ Some (anchor_bytes owner root height)
  pub left : Remains R s (word_of anchor) height root ps
  pub distinct : Distinct ps
  pub apart : IsAmong anchor ps → ⊥

-- what is left of a tree that is being destroyed, at these places: nothing, or the anchor and objects that are reached
-- from it and owned by it; where one was freed there may be nothing, or an object of another owner
abbrev pub IsRest : ℕ → State → Addr → List Addr → Type 0
IsRest nodes s anchor [] = s anchor ≡ None
IsRest nodes s anchor (at ∷ below) =
    (at ≡ anchor) × IsLeft (is_on nodes (anchor.region % nodes)) s anchor below

-- a step of destruction freed at most so many objects of those that were left, and changed nothing else; it is done
-- exactly where none is left, and freed as many as it might where one is
pub record Destroys (nodes : ℕ) (s t : State) (anchor : Addr) (ps : List Addr) (limit : ℕ) (done : Bool) : Type 0 where
  pub left : List Addr
  pub freed : ℕ
  pub rest : IsRest nodes t anchor left
  pub within : (a : Addr) → IsAmong a left → IsAmong a ps
  pub moves : Moves s t ps left
  pub count : length ps ≡ length left + freed
  pub few : freed ≤ limit
  pub ended : done ≡ true → left ≡ []
  pub goes_on : done ≡ false → (1 ≤ length left) × (freed ≡ limit)

-- places were emptied, and nothing else
abbrev pub Empties : State → State → Type 0
Empties s t = (a : Addr) → (t a ≡ s a) ⊎ (t a ≡ None)

-- a look at a place where there may be nothing: its bytes or none
abbrev pub SeekTells : Result (Option (List ℕ)) PartFault → Option (List ℕ) → Type 0
SeekTells (Ok b) here = b ≡ here
SeekTells (Err part.Memory) here = ⊤
SeekTells (Err _) here = ⊥

-- what is left below the entries of a node, below which there are so many levels
abbrev pub LeftBelow : (Addr → Bool) → State → ℕ → ℕ → List Entry → List Addr → Type 0
LeftBelow R s owner zero es ps = ps ≡ []
LeftBelow R s owner (suc d) es ps = Each (Remains R s owner d) es ps

-- what is left below entries is less by at most so many nodes, whose places are empty, and nothing else changed; fewer
-- were freed only where nothing is left
pub record LessBy (R : Addr → Bool) (s t : State) (owner levels : ℕ) (es : List Entry) (ps : List Addr)
    (limit freed : ℕ) : Type 0 where
  pub left : List Addr
  pub remains : LeftBelow R t owner levels es left
  pub distinct : Distinct left
  pub count : length ps ≡ length left + freed
  pub all : freed < limit → left ≡ []
  pub within : (a : Addr) → IsAmong a left → IsAmong a ps
  pub kept : (a : Addr) → IsAmong a left → t a ≡ s a
  pub gone : (a : Addr) → IsAmong a ps → (IsAmong a left → ⊥) → t a ≡ None
  pub frame : (a : Addr) → (IsAmong a ps → ⊥) → t a ≡ s a
