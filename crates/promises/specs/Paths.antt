-- Request 10: the path bytes that a walk's answer names, filled or needed. A walk that is refused for another reason names none.
use Rattle.std.specs.Prelude.{◌*◌, ◌≤◌}
use Rattle.bits.specs.Sizes.{longest_path}
use Rattle.framing.specs.Refusing.{Room, Answer, refused, accepted}
use Rattle.exports.specs.declared.VrfWalk.{VrfWalk}

-- no more than longest_path, which is 852, for each leaf that it names
abbrev pub PathsFit : Answer Room → Type 0
PathsFit (refused n need) = need.path_bytes_lem ≤ longest_path * need.leaves
PathsFit (accepted c p need) = need.path_bytes_lem ≤ longest_path * need.leaves

-- the same of the struct for C
abbrev pub PathsFitInC : VrfWalk → Type 0
PathsFitInC r = r.path_bytes ≤ longest_path * r.leaves
