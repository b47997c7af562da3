-- What a reference names, and how a node is shown.
--     RefersTo r x    the number r refers to x: below 65,536 to the leaf of that number, and 65,536 + j to node j
--     shown x         the node x as text: its condition's number and its two references, with colons between them
use Rattle.std.specs.Prelude.{◌≡◌, ℕ, ◌+◌, ◌<◌, List, ◌++◌, codes, decimal}
use Rattle.diagram.specs.declared.nodes.Node.{Node}
use Rattle.diagram.specs.declared.nodes.Reference.{Reference}
use Rattle.diagram.specs.declared.nodes.Reference.TheVariants.{Leaf, Node as Inner}
use Rattle.diagram.specs.Order.{number}

abbrev pub RefersTo : ℕ → Reference → Type 0
RefersTo r (Leaf k) = (r < 65536) × (k ≡ r)
RefersTo r (Inner j) = r ≡ 65536 + j

abbrev pub shown : Node → List ℕ
shown x = decimal (number x.condition) ++ (codes ":" ++ (decimal x.one ++ (codes ":" ++ decimal x.zero)))
