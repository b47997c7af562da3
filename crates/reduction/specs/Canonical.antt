-- The reduced table stands for its function and for no other.
--     Agree L f g        f and g give the same at every list of L bits
--     says n m bs        the number of the leaf to which the table m leads at the bits bs, from the first level on
--     TablesReadBack     a reduced table of at most 65,536 leaves is lawful and reads back its function; each leaf and node stands in it once, no node has two equal references, and the function walked again adds nothing
--     TablesAreCanonical    functions that agree have the same reduced table, and those with the same reduced table agree
use Rattle.std.specs.Prelude.{◌≡◌, ℕ, ◌+◌, ◌<◌, ◌≤◌, Bool, true, false, List, length, ◌≢◌, slice_index_or}
use Rattle.diagram.specs.declared.conditions.Domain.{Domain}
use Rattle.diagram.specs.declared.nodes.Node.{Node}
use Rattle.diagram.specs.Lawful.{node_at, names, Lawful}
use Rattle.diagram.specs.Reads.{reach}
use Rattle.reduction.specs.Walk.{same_node, Made, walk, reduced}

abbrev pub Agree : {X : Type 0} → ℕ → (List Bool → X) → (List Bool → X) → Type 0
Agree L f g = (bs : List Bool) → length bs ≡ L → f bs ≡ g bs

abbrev pub says : {X : Type 0} → ℕ → Made X → List Bool → ℕ
says n m bs = reach n m.nodes 0 bs m.root

-- a table that may test conditions before and after a move
abbrev pub both : ℕ → Domain
both n = record { conditions = n; after = true }

-- no two things of a list are the same
abbrev pub Distinct : {X : Type 0} → (X → X → Bool) → List X → Type 0
Distinct eq xs = (i j : ℕ) (d : _) → i < j → j < length xs → eq (slice_index_or xs i d) (slice_index_or xs j d) ≡ false

-- no node has two equal references
abbrev pub Parted : List Node → Type 0
Parted ns = (j : ℕ) → j < length ns → (node_at ns j).one ≢ (node_at ns j).zero

pub record ReadsBack {X : Type 0} (eq : X → X → Bool) (n : ℕ) (f : List Bool → X) (m : Made X) : Type 0 where
  pub lawful : Lawful (both n) (length m.leaves) m.nodes
  pub named : names (length m.leaves) (length m.nodes) m.root ≡ true
  pub reads : (bs : List Bool) → length bs ≡ n + n → (d : X) → slice_index_or m.leaves (says n m bs) d ≡ f bs
  pub leaves_once : Distinct eq m.leaves
  pub nodes_once : Distinct same_node m.nodes
  pub parted : Parted m.nodes
  pub again : walk eq n (n + n) 0 f m.leaves m.nodes ≡ m

-- over one kind of leaf
abbrev pub TablesReadBack : {X : Type 0} → (X → X → Bool) → Type 0
TablesReadBack eq = (n : ℕ) (f : List Bool → _) → length (reduced eq n f).leaves ≤ 65536 → ReadsBack eq n f (reduced eq n f)

pub record OneTable {X : Type 0} (eq : X → X → Bool) (n : ℕ) (f g : List Bool → X) : Type 0 where
  pub same : Agree (n + n) f g → reduced eq n f ≡ reduced eq n g
  pub agree : length (reduced eq n f).leaves ≤ 65536 → reduced eq n f ≡ reduced eq n g → Agree (n + n) f g

abbrev pub TablesAreCanonical : {X : Type 0} → (X → X → Bool) → Type 0
TablesAreCanonical eq = (n : ℕ) (f g : List Bool → _) → OneTable eq n f g
