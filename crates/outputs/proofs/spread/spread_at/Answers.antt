-- Each feature by its own rule.
use Rattle.outputs.specs.Spread.{spherical-at, diagonal-at}
use Rattle.outputs.proofs.spread.spread_at.Goals as goal

pub returns-in-Spherical : goal.returns-in-Spherical
returns-in-Spherical c = spherical-at _ _ c.requires.0.dim_few _ c.requires.1 _ c.in-Spherical.is c.requires.2

pub returns-in-Diagonal : goal.returns-in-Diagonal
returns-in-Diagonal c = diagonal-at _ _ c.requires.0.dim_few _ c.requires.1 _ c.in-Diagonal.is c.requires.2
