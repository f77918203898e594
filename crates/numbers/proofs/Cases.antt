-- P10 of the rules, and what an age is at zero and at both ends, by the definitions. Assumes nothing.
use Rattle.std.proofs.Common.{◌≡◌, refl, pos, negsuc}
use Rattle.numbers.specs.Counting.{age, ahead}
use Rattle.numbers.specs.Numbers.{poll_no, age_poll}

-- "P10 age from stamp 16,777,215 to poll 0 is 1; from 0 to 16,777,215 it is −1."
pub p10 : (age_poll (poll_no 16777215) (poll_no 0) ≡ pos 1) × (age_poll (poll_no 0) (poll_no 16777215) ≡ negsuc 0)
unfolding age ahead
p10 = (refl, refl)

pub ends : (age_poll (poll_no 5) (poll_no 5) ≡ pos 0) × (age_poll (poll_no 0) (poll_no 8388607) ≡ pos 8388607) × (age_poll (poll_no 0) (poll_no 8388608) ≡ negsuc 8388607)
unfolding age ahead
ends = (refl, refl, refl)
