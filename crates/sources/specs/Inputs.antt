-- How one of the diagrams that are read together is read.
--     sees f k b             the bit that is seen at level k where the bit is b: at a fixed level f always the fixed bit
--     seen f k bs            the bits from level k on as they are seen
--     Unfixed f m            no level below m is fixed
--     leads i k bs r         where the reference r leads from level k on, the bits from there being bs
--     value blank i k bs r   the leaf to which it leads
--     step i k b r           where r leads over the one level k, the bit there being b
--     place i levels r       the level that r's node tests, or `levels` where r is a leaf
--     Named i r              r names a leaf or a node of the diagram
--     LawfullyRead n i        among n conditions the diagram i is read over its own levels, or is a table over states read over those after a move; it is lawful as such, and its root names something
--     Readable i levels      each node tests a level below `levels`, and each of its branches names a leaf, or an earlier node that tests a later level
use Rattle.std.specs.Prelude.{◌≡◌, ℕ, suc, ◌<◌, ◌≤◌, Bool, true, cond, ◌⊎◌, List, [], ◌∷◌, length, Some, None, Option, ◌==◌, nat_lt, slice_index_or}
use Rattle.diagram.specs.Lawful.{node_at, named, names, later, Lawful}
use Rattle.diagram.specs.Order.{level}
use Rattle.diagram.specs.Reads.{descend, reach}
use Rattle.sources.specs.declared.input.Fixed.{Fixed}
use Rattle.sources.specs.declared.input.Input.{Input}

abbrev pub sees : Option Fixed → ℕ → Bool → Bool
sees None k b = b
sees (Some f) k b = cond (k == f.level) f.bit b

abbrev pub seen : Option Fixed → ℕ → List Bool → List Bool
seen f k [] = []
seen f k (b ∷ bs) = sees f k b ∷ seen f (suc k) bs

abbrev pub Unfixed : Option Fixed → ℕ → Type 0
Unfixed None m = Unit {0}
Unfixed (Some f) m = m ≤ f.level

abbrev pub leads : {X : Type 0} → Input X → ℕ → List Bool → ℕ → ℕ
leads i k bs r = reach i.offset i.table.nodes.now k (seen i.fixed k bs) r

abbrev pub value : {X : Type 0} → X → Input X → ℕ → List Bool → ℕ → X
value blank i k bs r = slice_index_or i.table.leaves.now (leads i k bs r) blank

abbrev pub step : {X : Type 0} → Input X → ℕ → Bool → ℕ → ℕ
step i k b r = descend i.offset i.table.nodes.now k (sees i.fixed k b) r

abbrev pub place : {X : Type 0} → Input X → ℕ → ℕ → ℕ
place i levels r = cond (nat_lt r 65536) levels (level i.offset (named i.table.nodes.now r).condition)

abbrev pub Named : {X : Type 0} → Input X → ℕ → Type 0
Named i r = names (length i.table.leaves.now) (length i.table.nodes.now) r ≡ true

-- what a branch r of node j is to be
pub record Branches {X : Type 0} (i : Input X) (j r : ℕ) : Type 0 where
  pub earlier : names (length i.table.leaves.now) j r ≡ true
  pub deeper : later i.offset i.table.nodes.now (node_at i.table.nodes.now j).condition r ≡ true

pub record Readable {X : Type 0} (i : Input X) (levels : ℕ) : Type 0 where
  pub inside : (j : ℕ) → j < length i.table.nodes.now → level i.offset (node_at i.table.nodes.now j).condition < levels
  pub one : (j : ℕ) → j < length i.table.nodes.now → Branches i j (node_at i.table.nodes.now j).one
  pub zero : (j : ℕ) → j < length i.table.nodes.now → Branches i j (node_at i.table.nodes.now j).zero

pub record LawfullyRead {X : Type 0} (n : ℕ) (i : Input X) : Type 0 where
  pub offset : (i.offset ≡ n) ⊎ (i.offset ≡ 0)
  pub rooted : Named i i.table.root
  pub lawful : Lawful (record { conditions = n; after = i.offset == n }) (length i.table.leaves.now) i.table.nodes.now
