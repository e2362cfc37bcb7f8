use Rattle.stretch.specs.Stretches.{put_stretch}
use Rattle.stretch.specs.Blocks.{link_is}
use Rattle.stretch.proofs.block.link.Goals as goal

pub returns : goal.returns
unfolding put_stretch
returns c =
    λ p. link_is _ p _ _ _ _ _ _ _ _ c.requires.0 c.requires.1 c.requires.2 c.parent_word.ensures c.kind_word.ensures c.copy_from_slice.ensures.after
