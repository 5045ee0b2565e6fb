-- `names_bare::table::character` meets its contract: each number of the table is one arm, and a number of none of them stands for none.
-- Made by tools/make_names.py. Assumes nothing.
use Rattle.std.proofs.Common.{refl, lit<}
use mathlib.Core.List.{map}
use Prim.Native.Nat.{ℕ}
use Rattle.names_bare.specs.Words.{words}
use Rattle.names_search.proofs.Arms.{rest-none, beside-out}
use Rattle.names_bare.proofs.table.character.Goals as goal

pub returns-in-2242700856125 : goal.returns-in-2242700856125
unfolding words
returns-in-2242700856125 c = rw c.in-2242700856125.is (refl, lit< tt)

pub returns-in-34237059 : goal.returns-in-34237059
unfolding words
returns-in-34237059 c = rw c.in-34237059.is (refl, lit< tt)

pub returns-in-575092290200366 : goal.returns-in-575092290200366
unfolding words
returns-in-575092290200366 c = rw c.in-575092290200366.is (refl, lit< tt)

pub returns-in-2246725833501 : goal.returns-in-2246725833501
unfolding words
returns-in-2246725833501 c = rw c.in-2246725833501.is (refl, lit< tt)

pub returns-in-575300451414830 : goal.returns-in-575300451414830
unfolding words
returns-in-575300451414830 c = rw c.in-575300451414830.is (refl, lit< tt)

pub returns-in-2248739091261 : goal.returns-in-2248739091261
unfolding words
returns-in-2248739091261 c = rw c.in-2248739091261.is (refl, lit< tt)

pub returns-in-575745925784366 : goal.returns-in-575745925784366
unfolding words
returns-in-575745925784366 c = rw c.in-575745925784366.is (refl, lit< tt)

pub returns-in-8785718116 : goal.returns-in-8785718116
unfolding words
returns-in-8785718116 c = rw c.in-8785718116.is (refl, lit< tt)

pub returns-in-9034171084 : goal.returns-in-9034171084
unfolding words
returns-in-9034171084 c = rw c.in-9034171084.is (refl, lit< tt)

pub returns-in-592753455221606 : goal.returns-in-592753455221606
unfolding words
returns-in-592753455221606 c = rw c.in-592753455221606.is (refl, lit< tt)

pub returns-in-36348483 : goal.returns-in-36348483
unfolding words
returns-in-36348483 c = rw c.in-36348483.is (refl, lit< tt)

pub returns-in-610276662289198 : goal.returns-in-610276662289198
unfolding words
returns-in-610276662289198 c = rw c.in-610276662289198.is (refl, lit< tt)

pub returns-in-2384164786973 : goal.returns-in-2384164786973
unfolding words
returns-in-2384164786973 c = rw c.in-2384164786973.is (refl, lit< tt)

pub returns-in-610484823503662 : goal.returns-in-610484823503662
unfolding words
returns-in-610484823503662 c = rw c.in-610484823503662.is (refl, lit< tt)

pub returns-in-9322589028 : goal.returns-in-9322589028
unfolding words
returns-in-9322589028 c = rw c.in-9322589028.is (refl, lit< tt)

pub returns-in-146082 : goal.returns-in-146082
unfolding words
returns-in-146082 c = rw c.in-146082.is (refl, lit< tt)

pub returns-in-645461034378030 : goal.returns-in-645461034378030
unfolding words
returns-in-645461034378030 c = rw c.in-645461034378030.is (refl, lit< tt)

pub returns-in-2521603740445 : goal.returns-in-2521603740445
unfolding words
returns-in-2521603740445 c = rw c.in-2521603740445.is (refl, lit< tt)

pub returns-in-645669195592494 : goal.returns-in-645669195592494
unfolding words
returns-in-645669195592494 c = rw c.in-645669195592494.is (refl, lit< tt)

pub returns-in-9859459940 : goal.returns-in-9859459940
unfolding words
returns-in-9859459940 c = rw c.in-9859459940.is (refl, lit< tt)

pub returns-in-156322 : goal.returns-in-156322
unfolding words
returns-in-156322 c = rw c.in-156322.is (refl, lit< tt)

pub returns-in-690095135073070 : goal.returns-in-690095135073070
unfolding words
returns-in-690095135073070 c = rw c.in-690095135073070.is (refl, lit< tt)

pub returns-in-698237592511278 : goal.returns-in-698237592511278
unfolding words
returns-in-698237592511278 c = rw c.in-698237592511278.is (refl, lit< tt)

pub returns-in-2727762170653 : goal.returns-in-2727762170653
unfolding words
returns-in-2727762170653 c = rw c.in-2727762170653.is (refl, lit< tt)

pub returns-in-698445753725742 : goal.returns-in-698445753725742
unfolding words
returns-in-698445753725742 c = rw c.in-698445753725742.is (refl, lit< tt)

pub returns-in-698857265273670 : goal.returns-in-698857265273670
unfolding words
returns-in-698857265273670 c = rw c.in-698857265273670.is (refl, lit< tt)

pub returns-in-698891228095278 : goal.returns-in-698891228095278
unfolding words
returns-in-698891228095278 c = rw c.in-698891228095278.is (refl, lit< tt)

pub returns-in-10664766308 : goal.returns-in-10664766308
unfolding words
returns-in-10664766308 c = rw c.in-10664766308.is (refl, lit< tt)

pub returns-in-10916362916 : goal.returns-in-10916362916
unfolding words
returns-in-10916362916 c = rw c.in-10916362916.is (refl, lit< tt)

pub returns-in-43133499 : goal.returns-in-43133499
unfolding words
returns-in-43133499 c = rw c.in-43133499.is (refl, lit< tt)

pub returns-in-2895923286645 : goal.returns-in-2895923286645
unfolding words
returns-in-2895923286645 c = rw c.in-2895923286645.is (refl, lit< tt)

pub returns-in-751014150644526 : goal.returns-in-751014150644526
unfolding words
returns-in-751014150644526 c = rw c.in-751014150644526.is (refl, lit< tt)

pub returns-in-2933920600861 : goal.returns-in-2933920600861
unfolding words
returns-in-2933920600861 c = rw c.in-2933920600861.is (refl, lit< tt)

pub returns-in-751222311858990 : goal.returns-in-751222311858990
unfolding words
returns-in-751222311858990 c = rw c.in-751222311858990.is (refl, lit< tt)

pub returns-in-11470072676 : goal.returns-in-11470072676
unfolding words
returns-in-11470072676 c = rw c.in-11470072676.is (refl, lit< tt)

pub returns-in-786198522733358 : goal.returns-in-786198522733358
unfolding words
returns-in-786198522733358 c = rw c.in-786198522733358.is (refl, lit< tt)

pub returns-in-856567266911022 : goal.returns-in-856567266911022
unfolding words
returns-in-856567266911022 c = rw c.in-856567266911022.is (refl, lit< tt)

pub returns-in-3346237461277 : goal.returns-in-3346237461277
unfolding words
returns-in-3346237461277 c = rw c.in-3346237461277.is (refl, lit< tt)

pub returns-in-3346243756845 : goal.returns-in-3346243756845
unfolding words
returns-in-3346243756845 c = rw c.in-3346243756845.is (refl, lit< tt)

pub returns-in-3346507451197 : goal.returns-in-3346507451197
unfolding words
returns-in-3346507451197 c = rw c.in-3346507451197.is (refl, lit< tt)

pub returns-in-856775428125486 : goal.returns-in-856775428125486
unfolding words
returns-in-856775428125486 c = rw c.in-856775428125486.is (refl, lit< tt)

pub returns-in-51080067 : goal.returns-in-51080067
unfolding words
returns-in-51080067 c = rw c.in-51080067.is (refl, lit< tt)

pub returns-in-3348250719037 : goal.returns-in-3348250719037
unfolding words
returns-in-3348250719037 c = rw c.in-3348250719037.is (refl, lit< tt)

pub returns-in-857220902495022 : goal.returns-in-857220902495022
unfolding words
returns-in-857220902495022 c = rw c.in-857220902495022.is (refl, lit< tt)

pub returns-in-13080685412 : goal.returns-in-13080685412
unfolding words
returns-in-13080685412 c = rw c.in-13080685412.is (refl, lit< tt)

pub returns-in-865950015622038 : goal.returns-in-865950015622038
unfolding words
returns-in-865950015622038 c = rw c.in-865950015622038.is (refl, lit< tt)

pub returns-in-874228431932262 : goal.returns-in-874228431932262
unfolding words
returns-in-874228431932262 c = rw c.in-874228431932262.is (refl, lit< tt)

pub returns-in-3415222733669 : goal.returns-in-3415222733669
unfolding words
returns-in-3415222733669 c = rw c.in-3415222733669.is (refl, lit< tt)

pub returns-in-13340734372 : goal.returns-in-13340734372
unfolding words
returns-in-13340734372 c = rw c.in-13340734372.is (refl, lit< tt)

pub returns-in-13345981388 : goal.returns-in-13345981388
unfolding words
returns-in-13345981388 c = rw c.in-13345981388.is (refl, lit< tt)

pub returns-in-874848659385206 : goal.returns-in-874848659385206
unfolding words
returns-in-874848659385206 c = rw c.in-874848659385206.is (refl, lit< tt)

pub returns-in-52636475 : goal.returns-in-52636475
unfolding words
returns-in-52636475 c = rw c.in-52636475.is (refl, lit< tt)

pub returns-in-883232967697198 : goal.returns-in-883232967697198
unfolding words
returns-in-883232967697198 c = rw c.in-883232967697198.is (refl, lit< tt)

pub returns-in-891751638999854 : goal.returns-in-891751638999854
unfolding words
returns-in-891751638999854 c = rw c.in-891751638999854.is (refl, lit< tt)

pub returns-in-3483676414749 : goal.returns-in-3483676414749
unfolding words
returns-in-3483676414749 c = rw c.in-3483676414749.is (refl, lit< tt)

pub returns-in-891959800214318 : goal.returns-in-891959800214318
unfolding words
returns-in-891959800214318 c = rw c.in-891959800214318.is (refl, lit< tt)

pub returns-in-53191491 : goal.returns-in-53191491
unfolding words
returns-in-53191491 c = rw c.in-53191491.is (refl, lit< tt)

pub returns-in-13617556324 : goal.returns-in-13617556324
unfolding words
returns-in-13617556324 c = rw c.in-13617556324.is (refl, lit< tt)

pub returns-in-901131569564054 : goal.returns-in-901131569564054
unfolding words
returns-in-901131569564054 c = rw c.in-901131569564054.is (refl, lit< tt)

pub returns-in-901131569564070 : goal.returns-in-901131569564070
unfolding words
returns-in-901131569564070 c = rw c.in-901131569564070.is (refl, lit< tt)

pub returns-in-901131569568166 : goal.returns-in-901131569568166
unfolding words
returns-in-901131569568166 c = rw c.in-901131569568166.is (refl, lit< tt)

pub returns-in-211874 : goal.returns-in-211874
unfolding words
returns-in-211874 c = rw c.in-211874.is (refl, lit< tt)

pub returns-in-926936011088686 : goal.returns-in-926936011088686
unfolding words
returns-in-926936011088686 c = rw c.in-926936011088686.is (refl, lit< tt)

pub returns-in-3621115368221 : goal.returns-in-3621115368221
unfolding words
returns-in-3621115368221 c = rw c.in-3621115368221.is (refl, lit< tt)

pub returns-in-3621391637349 : goal.returns-in-3621391637349
unfolding words
returns-in-3621391637349 c = rw c.in-3621391637349.is (refl, lit< tt)

pub returns-in-927144172303150 : goal.returns-in-927144172303150
unfolding words
returns-in-927144172303150 c = rw c.in-927144172303150.is (refl, lit< tt)

pub returns-in-927488174431142 : goal.returns-in-927488174431142
unfolding words
returns-in-927488174431142 c = rw c.in-927488174431142.is (refl, lit< tt)

pub returns-in-14154427236 : goal.returns-in-14154427236
unfolding words
returns-in-14154427236 c = rw c.in-14154427236.is (refl, lit< tt)

pub returns-in-3723930348413 : goal.returns-in-3723930348413
unfolding words
returns-in-3723930348413 c = rw c.in-3723930348413.is (refl, lit< tt)

pub returns-in-222114 : goal.returns-in-222114
unfolding words
returns-in-222114 c = rw c.in-222114.is (refl, lit< tt)

pub returns-in-14680791956 : goal.returns-in-14680791956
unfolding words
returns-in-14680791956 c = rw c.in-14680791956.is (refl, lit< tt)

pub returns-in-3759356482429 : goal.returns-in-3759356482429
unfolding words
returns-in-3759356482429 c = rw c.in-3759356482429.is (refl, lit< tt)

pub returns-in-962395386379174 : goal.returns-in-962395386379174
unfolding words
returns-in-962395386379174 c = rw c.in-962395386379174.is (refl, lit< tt)

pub returns-in-14815566724 : goal.returns-in-14815566724
unfolding words
returns-in-14815566724 c = rw c.in-14815566724.is (refl, lit< tt)

pub returns-in-57899939 : goal.returns-in-57899939
unfolding words
returns-in-57899939 c = rw c.in-57899939.is (refl, lit< tt)

pub returns-in-971570111783726 : goal.returns-in-971570111783726
unfolding words
returns-in-971570111783726 c = rw c.in-971570111783726.is (refl, lit< tt)

pub returns-in-979712569221934 : goal.returns-in-979712569221934
unfolding words
returns-in-979712569221934 c = rw c.in-979712569221934.is (refl, lit< tt)

pub returns-in-3827273798429 : goal.returns-in-3827273798429
unfolding words
returns-in-3827273798429 c = rw c.in-3827273798429.is (refl, lit< tt)

pub returns-in-979920730436398 : goal.returns-in-979920730436398
unfolding words
returns-in-979920730436398 c = rw c.in-979920730436398.is (refl, lit< tt)

pub returns-in-14958142260 : goal.returns-in-14958142260
unfolding words
returns-in-14958142260 c = rw c.in-14958142260.is (refl, lit< tt)

pub returns-in-14958142316 : goal.returns-in-14958142316
unfolding words
returns-in-14958142316 c = rw c.in-14958142316.is (refl, lit< tt)

pub returns-in-980332241984326 : goal.returns-in-980332241984326
unfolding words
returns-in-980332241984326 c = rw c.in-980332241984326.is (refl, lit< tt)

pub returns-in-980366204805934 : goal.returns-in-980366204805934
unfolding words
returns-in-980366204805934 c = rw c.in-980366204805934.is (refl, lit< tt)

pub returns-in-14959733604 : goal.returns-in-14959733604
unfolding words
returns-in-14959733604 c = rw c.in-14959733604.is (refl, lit< tt)

pub returns-in-15083475724 : goal.returns-in-15083475724
unfolding words
returns-in-15083475724 c = rw c.in-15083475724.is (refl, lit< tt)

pub returns-in-988889034222454 : goal.returns-in-988889034222454
unfolding words
returns-in-988889034222454 c = rw c.in-988889034222454.is (refl, lit< tt)

pub returns-in-3863250432805 : goal.returns-in-3863250432805
unfolding words
returns-in-3863250432805 c = rw c.in-3863250432805.is (refl, lit< tt)

pub returns-in-15228173220 : goal.returns-in-15228173220
unfolding words
returns-in-15228173220 c = rw c.in-15228173220.is (refl, lit< tt)

pub returns-in-3930088778621 : goal.returns-in-3930088778621
unfolding words
returns-in-3930088778621 c = rw c.in-3930088778621.is (refl, lit< tt)

pub returns-in-59976507 : goal.returns-in-59976507
unfolding words
returns-in-59976507 c = rw c.in-59976507.is (refl, lit< tt)

pub returns-in-15488195492 : goal.returns-in-15488195492
unfolding words
returns-in-15488195492 c = rw c.in-15488195492.is (refl, lit< tt)

pub returns-in-60507083 : goal.returns-in-60507083
unfolding words
returns-in-60507083 c = rw c.in-60507083.is (refl, lit< tt)

pub returns-in-15496610188 : goal.returns-in-15496610188
unfolding words
returns-in-15496610188 c = rw c.in-15496610188.is (refl, lit< tt)

pub returns-in-15496610196 : goal.returns-in-15496610196
unfolding words
returns-in-15496610196 c = rw c.in-15496610196.is (refl, lit< tt)

pub returns-in-15496610204 : goal.returns-in-15496610204
unfolding words
returns-in-15496610204 c = rw c.in-15496610204.is (refl, lit< tt)

pub returns-in-3967801314109 : goal.returns-in-3967801314109
unfolding words
returns-in-3967801314109 c = rw c.in-3967801314109.is (refl, lit< tt)

pub returns-in-3999746724725 : goal.returns-in-3999746724725
unfolding words
returns-in-3999746724725 c = rw c.in-3999746724725.is (refl, lit< tt)

pub returns-in-3999879867293 : goal.returns-in-3999879867293
unfolding words
returns-in-3999879867293 c = rw c.in-3999879867293.is (refl, lit< tt)

pub returns-in-1032489127355182 : goal.returns-in-1032489127355182
unfolding words
returns-in-1032489127355182 c = rw c.in-1032489127355182.is (refl, lit< tt)

pub returns-in-4033432228637 : goal.returns-in-4033432228637
unfolding words
returns-in-4033432228637 c = rw c.in-4033432228637.is (refl, lit< tt)

pub returns-in-1032697288569646 : goal.returns-in-1032697288569646
unfolding words
returns-in-1032697288569646 c = rw c.in-1032697288569646.is (refl, lit< tt)

pub returns-in-61565795 : goal.returns-in-61565795
unfolding words
returns-in-61565795 c = rw c.in-61565795.is (refl, lit< tt)

pub returns-in-15765039972 : goal.returns-in-15765039972
unfolding words
returns-in-15765039972 c = rw c.in-15765039972.is (refl, lit< tt)

pub returns-in-1067673499444014 : goal.returns-in-1067673499444014
unfolding words
returns-in-1067673499444014 c = rw c.in-1067673499444014.is (refl, lit< tt)

pub returns-in-63646579 : goal.returns-in-63646579
unfolding words
returns-in-63646579 c = rw c.in-63646579.is (refl, lit< tt)

pub returns-in-16301910884 : goal.returns-in-16301910884
unfolding words
returns-in-16301910884 c = rw c.in-16301910884.is (refl, lit< tt)

pub returns-in_default : goal.returns-in_default
unfolding words
returns-in_default c = let n = c.args.word in (beside-out 0 words n (rest-none n _ (map (λ (pair : ℕ × ℕ). pair.0) words) c.in_default.in_default-own.rest))
