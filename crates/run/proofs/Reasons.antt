-- The reason of the code that stands for a reason of the model stands for that one only. Assumes nothing.
use mathlib.Core.Path.{◌≡◌, refl}
use Rattle.model.specs.Answer.{Reason, wrong_table, wrong_state, wrong_action, wrong_edge, wrong_expression, wrong_list, wrong_link, wrong_path, wrong_pair, stops_differ, not_covered, does_not_follow, over_size, over_tests, no_contradiction, not_assured, reads_differ, writes_differ, link_not_kept, end_stop, end_limit, end_input, end_room, wrong_input}
use Rattle.fault.specs.Fault.{reason_of, reason_as}

pub reason_back : (m : Reason) → reason_of (reason_as m) ≡ m
unfolding reason_of
reason_back wrong_table = refl
reason_back wrong_state = refl
reason_back wrong_action = refl
reason_back wrong_edge = refl
reason_back wrong_expression = refl
reason_back wrong_list = refl
reason_back wrong_link = refl
reason_back wrong_path = refl
reason_back wrong_pair = refl
reason_back stops_differ = refl
reason_back not_covered = refl
reason_back does_not_follow = refl
reason_back over_size = refl
reason_back over_tests = refl
reason_back no_contradiction = refl
reason_back not_assured = refl
reason_back reads_differ = refl
reason_back writes_differ = refl
reason_back link_not_kept = refl
reason_back end_stop = refl
reason_back end_limit = refl
reason_back end_input = refl
reason_back end_room = refl
reason_back wrong_input = refl
