use Rattle.std.proofs.Common.{ap, refl, rules}
use Rattle.model_file.specs.Fields.{tag_of, body_of}
use Rattle.model_file.proofs.Stored.{joined, stored_field}
use Rattle.model_file.proofs.store.store.Goals as goal
use Rattle.model_file.proofs.store.store.Goals.{in-Sizes, in-Rewards+in_ok-draft-in-Rewards, in-Chances+in_ok-draft-in-Chances, in-RewardNodes+in_ok-draft-in-RewardNodes, in-ChanceNodes+in_ok-draft-in-ChanceNodes, in-Roots+in_ok-roots-in-Roots}

pub returns-clause-stored : goal.returns-clause-stored
returns-clause-stored c t old marked was =
    let a = c.after.ensures in
    elim c.match-field.branch [
      | in-Sizes w ↦
          stored_field c.args.field 1 t old marked (ap tag_of w.in-Sizes.is) a.place a.last a.draft a.roots refl (search rules) (search rules) (search rules)
      | in-Rewards+in_ok-draft-in-Rewards w ↦
          let j = joined t.lists.rewards old.rewards (ap body_of w.in-Rewards.is) (ap (λ d. d.rewards) marked.draft) (ap (λ l. l.rewards) was) w.in_ok-draft-in-Rewards.ensures in
          stored_field c.args.field 2 t old marked (ap tag_of w.in-Rewards.is) a.place a.last a.draft a.roots j.room (search rules) (search rules) (search rules)
      | in-Chances+in_ok-draft-in-Chances w ↦
          let j = joined t.lists.chances old.chances (ap body_of w.in-Chances.is) (ap (λ d. d.chances) marked.draft) (ap (λ l. l.chances) was) w.in_ok-draft-in-Chances.ensures in
          stored_field c.args.field 3 t old marked (ap tag_of w.in-Chances.is) a.place a.last a.draft a.roots j.room (search rules) (search rules) (search rules)
      | in-RewardNodes+in_ok-draft-in-RewardNodes w ↦
          let j = joined t.lists.reward_nodes old.reward_nodes (ap body_of w.in-RewardNodes.is) (ap (λ d. d.reward_nodes) marked.draft) (ap (λ l. l.reward_nodes) was) w.in_ok-draft-in-RewardNodes.ensures in
          stored_field c.args.field 4 t old marked (ap tag_of w.in-RewardNodes.is) a.place a.last a.draft a.roots j.room (search rules) (search rules) (search rules)
      | in-ChanceNodes+in_ok-draft-in-ChanceNodes w ↦
          let j = joined t.lists.chance_nodes old.chance_nodes (ap body_of w.in-ChanceNodes.is) (ap (λ d. d.chance_nodes) marked.draft) (ap (λ l. l.chance_nodes) was) w.in_ok-draft-in-ChanceNodes.ensures in
          stored_field c.args.field 5 t old marked (ap tag_of w.in-ChanceNodes.is) a.place a.last a.draft a.roots j.room (search rules) (search rules) (search rules)
      | in-Roots+in_ok-roots-in-Roots w ↦
          let j = joined t.lists.roots old.roots (ap body_of w.in-Roots.is) marked.roots (ap (λ l. l.roots) was) w.in_ok-roots-in-Roots.ensures in
          stored_field c.args.field 6 t old marked (ap tag_of w.in-Roots.is) a.place a.last a.draft a.roots j.room (search rules) (search rules) (search rules)
    ]
