-- Concrete instances of the laws, computed.
-- Each step under test is the rule; the edits of must-fail/ put a wrong step in its place, and a fact no longer holds.
pub mod Told
pub mod Spared
pub mod Formed
pub mod Fitting
pub mod Steps
pub mod Facts
