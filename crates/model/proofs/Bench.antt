-- The definitions compute: the bench examples P1 to P11 by one theorem, and the worked examples of 01. Assumes nothing.
use Prim.Native.Nat.{ℕ}
use mathlib.Core.Path.{◌≡◌, refl}
use mathlib.Core.List.{List, [], ◌∷◌}
use lib.ListN.{set, replicate}
use Rattle.model.specs.Answer as Answer
use Rattle.model.specs.Answer.{Answer, accepted}
use Rattle.model.specs.Word as Word
use Rattle.model.specs.Word.{base}
use Rattle.model.specs.Expr as Expr
use Rattle.model.specs.Table as Table
use Rattle.model.specs.Run as Run
use Rattle.model.specs.Run.{trial, trial_buffer, zeros}
use Rattle.model.specs.Sum as Sum
use Rattle.model.specs.Path as Path
use Rattle.model.specs.Correspondence as List·
use Rattle.model.specs.Judgement as Judgement
use Rattle.model.specs.Judgement.{verdict}
use Rattle.model.specs.Bench.{SayAll, bench, meter, meter_list, meter_exchanged}

abbrev answer : ℕ → ℕ → ℕ → Answer
answer n i r = record { number = n; image = i; «record» = r }

-- Naming this on an `unfolding` line opens every definition of specs/.
unfoldable pub everything : Unit {0}
unfolding Answer.number_of Answer.accepted Answer.◌then◌ Answer.first_of Answer.up_to Answer.kept Answer.all_kept Answer.check Answer.in_image Answer.word Word.wrap Word.plus Word.negated Word.minus Word.times Word.signed Word.kind_number Word.holds Expr.value Expr.code_of Expr.and_read Expr.read_as Expr.read_with Expr.read_at Expr.is_parsed Expr.tree_of Table.states Table.edges Table.actions Table.codes Table.edges_at Table.actions_at Table.codes_at Table.code_area Table.header_rules Table.start_fault Table.state_word Table.state_rules Table.state_starts Table.state_fault Table.action_word Table.action_rules Table.action_starts Table.action_fault Table.action_of Table.action_at Table.edge_word Table.edge_at Table.variables_set Table.member Table.distinct Table.edge_fault Table.table_fault Table.kind_of Table.state_of Table.table_of Run.tick Run.keep_if Run.reads Run.writes Run.at Run.act Run.act_all Run.fire Run.is_stop Run.side_at Run.edge_on Run.next Run.after Run.start Run.zeros Run.each_port Run.couples Run.couple_words Run.ports_right Run.given Run.enough_input Run.enough_room Run.ended Run.run_on Run.run_fault Run.image_of Run.trial_of Run.buffer_of Run.end_of Run.trial Run.trial_buffer Sum.and_then Sum.same Sum.same_term Sum.same_sum Sum.lower Sum.precedes Sum.keep Sum.insert Sum.collect Sum.fit Sum.empty Sum.constant_sum Sum.symbol_sum Sum.add Sum.negate_term Sum.negate Sum.subtract Sum.place Sum.merge Sum.term_product Sum.products Sum.multiply Sum.sum_of Sum.powers Sum.total Sum.worth Path.choices Path.allows Path.walkable Path.end_state Path.walks_of Path.walks Path.begins Path.beginnings Path.true_first Path.is_none Path.true_side Path.behind Path.all_false Path.covers_of Path.covers Path.rule11 Path.side Path.read_symbol Path.room_on Path.follow_action Path.follow_actions Path.follow_edge Path.asked Path.follow List·.pairs List·.links List·.paths List·.links_at List·.paths_at List·.list_rules List·.link_at List·.link_fault List·.path_word List·.side_rules List·.mark_rules List·.path_fault List·.path_at List·.pair_word List·.pair_at List·.reset_rules List·.pair_fault List·.list_fault Judgement.constant_of Judgement.same_kind Judgement.settled_by Judgement.settled Judgement.settled_as Judgement.is_true Judgement.is_false Judgement.same_test Judgement.same_condition Judgement.opposite Judgement.any Judgement.all Judgement.contradicts Judgement.assured Judgement.same_reads Judgement.same_writes Judgement.keeps_links Judgement.partner Judgement.start_side Judgement.first_side Judgement.second_side Judgement.when_fits Judgement.judge_impossible Judgement.judge_sides Judgement.leads_to Judgement.judge_possible Judgement.judge_path Judgement.judge_pair Judgement.judgement Judgement.verdict_at Judgement.verdict
everything = tt

-- P1 to P11.
pub bench_holds : SayAll bench
unfolding everything
bench_holds = (refl, (refl, (refl, (refl, (refl, (refl, (refl, (refl, (refl, (refl, (refl, (refl, (refl, tt)))))))))))))

-- The meter table against itself.
pub meter_accepted : verdict meter meter meter_list ≡ accepted
unfolding everything
meter_accepted = refl

-- With the test of the second table unsigned (word 15 is 4).
pub meter_unsigned : verdict meter (set meter 15 4) meter_list ≡ answer 16 3 0
unfolding everything
meter_unsigned = refl

pub meter_exchanged_lem : verdict meter meter meter_exchanged ≡ answer 11 3 0
unfolding everything
meter_exchanged_lem = refl

-- No words at all as first table.
pub meter_empty : verdict [] meter meter_list ≡ answer 1 1 0
unfolding everything
meter_empty = refl

-- The sample run: the answer is end 22 in state 0 after 4 edges, with 4 couples, and the couples stand in front of the buffer.

abbrev meter_words : List ℕ
meter_words = 0 ∷ 7 ∷ 0 ∷ 4294967290 ∷ []

pub meter_run : trial base zeros meter meter_words 10000 (replicate 4096 9) ≡ record { number = 22; image = 0; «record» = 0; state = 0; edges = 4; couple_count = 4; variables = 4294967290 ∷ replicate 15 0 }
unfolding everything
meter_run = refl

pub meter_buffer : trial_buffer base zeros meter meter_words 10000 (replicate 4096 9) ≡ 1 ∷ 0 ∷ 0 ∷ 7 ∷ 1 ∷ 1 ∷ 0 ∷ 6 ∷ replicate 4088 9
unfolding everything
meter_buffer = refl
