use Rattle.stretch.specs.Stretches.{put_stretch}
use Rattle.stretch.specs.Blocks.{list_is}
use Rattle.stretch.proofs.block.set_list.Goals as goal

pub returns : goal.returns
unfolding put_stretch
returns c =
    λ p. list_is _ p _ _ _ _ _ _ c.requires.0 c.requires.1 (c.is_leaf-leaf.ensures p) c.kind_word.ensures c.copy_from_slice.ensures.after
