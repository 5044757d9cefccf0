use Rattle.kernel_image.proofs.Existing.{is_whole}
use Rattle.kernel_image.proofs.laws.kernel_says.Goals as goal

pub returns : goal.returns
returns c =
    let s = c.spells_definitions.ensures in
    is_whole s.definition s.opening c.tells_which_trees_have_a_text.ensures.method c.spells_the_tree_again.ensures.method
