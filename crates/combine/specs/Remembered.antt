-- What a memo of a combination says. f k at is the combined function over the levels from k on, read from the three references `at`.
--     Known eq S f ls ns at r             r stands for what is read from `at`: walking it again comes to r and lists nothing more
--     Remembers eq S f es stamp ls ns     every entry that was made under the stamp is known
use Rattle.std.specs.Prelude.{◌≡◌, ℕ, ◌<◌, ◌≤◌, Bool, List, length}
use Rattle.diagram.specs.declared.nodes.Node.{Node}
use Rattle.sources.specs.declared.entry.Entry.{Entry}
use Rattle.sources.specs.declared.spot.Spot.{Spot}
use Rattle.sources.specs.declared.three.Sources.{Sources}
use Rattle.sources.specs.Memos.{entry_at}
use Rattle.sources.specs.Spots.{levels, top}
use Rattle.combine.specs.Tables.{made, walk_from}

pub record Known {A B C X : Type 0} (eq : X → X → Bool) (S : Sources A B C) (f : ℕ → Spot → List Bool → X) (ls : List X) (ns : List Node) (at : Spot) (r : ℕ) : Type 0 where
  pub inside : top S at ≤ levels S
  pub again : walk_from eq S.conditions (top S at) (f (top S at) at) ls ns ≡ made r ls ns

abbrev pub Remembers : {A B C X : Type 0} → (X → X → Bool) → Sources A B C → (ℕ → Spot → List Bool → X) → List Entry → ℕ → List X → List Node → Type 0
Remembers eq S f es stamp ls ns = (j : ℕ) → j < length es → (entry_at es j).stamp ≡ stamp → Known eq S f ls ns (entry_at es j).spot (entry_at es j).result
