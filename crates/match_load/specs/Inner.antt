-- Inner definitions: no promise of a public function and no demand reaches them.
pub mod Matches
pub mod Tested
