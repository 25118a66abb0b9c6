-- 2 ^ x of an f32, by the table rule of document 01, "Added by design", letter by letter. Definitions only.
-- N, the floor of x * 65,536, and i, the floor of N / 65,536, can be negative. Natural numbers stand for them here: n = N + 128 * 65,536,
-- which is above 0 for an x from -126 up, and i + 128. j and r are the same for n as for N. 8388608 is 128 * 65,536.
use Rattle.std.specs.Prelude.{ℕ, ◌+◌, ◌-◌, ◌*◌, ◌/◌, ◌%◌, ◌^◌, ◌≤◌, ◌<◌, true, false, cond, List, [], ◌∷◌, pos, get_or, Float}
use Rattle.std.specs.Float.{nan, inf, fin}
use Rattle.std.specs.Float.Ieee.{up, down, odd, is_nan, le, lt}

-- E(0) to E(256): the whole numbers with E ^ 256 ≤ 2 ^ (5888 + entry) < (E + 1) ^ 256.
-- `rule` of proofs/Entries.antt shows that of each, and `only` that no other number meets it.
unfoldable pub entries : List ℕ
entries =
    8388608 ∷ 8411351 ∷ 8434157 ∷ 8457024 ∷ 8479953 ∷ 8502945 ∷ 8525999 ∷ 8549115 ∷ 8572294 ∷ 8595536 ∷ 8618841 ∷ 8642209 ∷
    8665640 ∷ 8689135 ∷ 8712694 ∷ 8736316 ∷ 8760003 ∷ 8783754 ∷ 8807569 ∷ 8831449 ∷ 8855393 ∷ 8879402 ∷ 8903477 ∷ 8927617 ∷
    8951822 ∷ 8976093 ∷ 9000430 ∷ 9024832 ∷ 9049301 ∷ 9073836 ∷ 9098438 ∷ 9123106 ∷ 9147841 ∷ 9172644 ∷ 9197513 ∷ 9222450 ∷
    9247455 ∷ 9272527 ∷ 9297668 ∷ 9322876 ∷ 9348153 ∷ 9373498 ∷ 9398913 ∷ 9424396 ∷ 9449948 ∷ 9475569 ∷ 9501260 ∷ 9527021 ∷
    9552851 ∷ 9578751 ∷ 9604722 ∷ 9630763 ∷ 9656875 ∷ 9683057 ∷ 9709311 ∷ 9735635 ∷ 9762031 ∷ 9788499 ∷ 9815038 ∷ 9841649 ∷
    9868333 ∷ 9895088 ∷ 9921917 ∷ 9948818 ∷ 9975792 ∷ 10002839 ∷ 10029959 ∷ 10057153 ∷ 10084421 ∷ 10111763 ∷ 10139178 ∷ 10166669 ∷
    10194233 ∷ 10221873 ∷ 10249587 ∷ 10277376 ∷ 10305241 ∷ 10333181 ∷ 10361198 ∷ 10389290 ∷ 10417458 ∷ 10445702 ∷ 10474024 ∷ 10502422 ∷
    10530897 ∷ 10559449 ∷ 10588078 ∷ 10616785 ∷ 10645571 ∷ 10674434 ∷ 10703375 ∷ 10732395 ∷ 10761493 ∷ 10790671 ∷ 10819927 ∷ 10849263 ∷
    10878678 ∷ 10908173 ∷ 10937748 ∷ 10967404 ∷ 10997139 ∷ 11026955 ∷ 11056853 ∷ 11086831 ∷ 11116890 ∷ 11147031 ∷ 11177254 ∷ 11207558 ∷
    11237945 ∷ 11268414 ∷ 11298966 ∷ 11329601 ∷ 11360318 ∷ 11391119 ∷ 11422004 ∷ 11452972 ∷ 11484024 ∷ 11515161 ∷ 11546381 ∷ 11577687 ∷
    11609077 ∷ 11640552 ∷ 11672113 ∷ 11703759 ∷ 11735492 ∷ 11767310 ∷ 11799214 ∷ 11831205 ∷ 11863283 ∷ 11895447 ∷ 11927699 ∷ 11960038 ∷
    11992465 ∷ 12024980 ∷ 12057583 ∷ 12090275 ∷ 12123055 ∷ 12155924 ∷ 12188882 ∷ 12221929 ∷ 12255066 ∷ 12288293 ∷ 12321610 ∷ 12355017 ∷
    12388515 ∷ 12422104 ∷ 12455784 ∷ 12489555 ∷ 12523417 ∷ 12557372 ∷ 12591418 ∷ 12625557 ∷ 12659788 ∷ 12694112 ∷ 12728530 ∷ 12763040 ∷
    12797644 ∷ 12832342 ∷ 12867134 ∷ 12902021 ∷ 12937002 ∷ 12972077 ∷ 13007248 ∷ 13042514 ∷ 13077876 ∷ 13113334 ∷ 13148888 ∷ 13184538 ∷
    13220285 ∷ 13256129 ∷ 13292070 ∷ 13328108 ∷ 13364244 ∷ 13400479 ∷ 13436811 ∷ 13473242 ∷ 13509772 ∷ 13546400 ∷ 13583128 ∷ 13619956 ∷
    13656883 ∷ 13693911 ∷ 13731039 ∷ 13768268 ∷ 13805597 ∷ 13843028 ∷ 13880560 ∷ 13918194 ∷ 13955930 ∷ 13993769 ∷ 14031709 ∷ 14069753 ∷
    14107900 ∷ 14146151 ∷ 14184505 ∷ 14222963 ∷ 14261525 ∷ 14300192 ∷ 14338964 ∷ 14377841 ∷ 14416823 ∷ 14455911 ∷ 14495105 ∷ 14534405 ∷
    14573812 ∷ 14613326 ∷ 14652946 ∷ 14692675 ∷ 14732510 ∷ 14772454 ∷ 14812506 ∷ 14852667 ∷ 14892937 ∷ 14933316 ∷ 14973804 ∷ 15014402 ∷
    15055110 ∷ 15095929 ∷ 15136858 ∷ 15177898 ∷ 15219050 ∷ 15260313 ∷ 15301688 ∷ 15343175 ∷ 15384774 ∷ 15426487 ∷ 15468312 ∷ 15510251 ∷
    15552304 ∷ 15594470 ∷ 15636751 ∷ 15679147 ∷ 15721657 ∷ 15764283 ∷ 15807024 ∷ 15849881 ∷ 15892855 ∷ 15935945 ∷ 15979151 ∷ 16022475 ∷
    16065917 ∷ 16109476 ∷ 16153153 ∷ 16196949 ∷ 16240863 ∷ 16284896 ∷ 16329049 ∷ 16373322 ∷ 16417714 ∷ 16462227 ∷ 16506861 ∷ 16551616 ∷
    16596492 ∷ 16641489 ∷ 16686609 ∷ 16731851 ∷ 16777216 ∷ []

-- the rule of the entry e at k
pub record Entry (k e : ℕ) : Type 0 where
  pub low : e ^ 256 ≤ 2 ^ (5888 + k)
  pub high : 2 ^ (5888 + k) < (e + 1) ^ 256

-- E(k)
unfoldable pub entry_of : ℕ → ℕ
unfolding entries
entry_of k = get_or entries k 0

-- n: the floor of (x + 128) * 65,536, for a finite x from -126 up; x is m * up e / down e, or minus that.
-- `plus_floor` and `minus_floor` of proofs/PowerReview.antt show that it is N + 128 * 65,536.
unfoldable pub scaled : Float → ℕ
scaled nan = 0
scaled (inf s) = 0
scaled (fin false m e) = (8388608 * down e + m * up e * 65536) / down e
scaled (fin true m e) = (8388608 * down e - m * up e * 65536) / down e

-- i + 128, where i is the floor of N / 65,536
abbrev pub i_of+128 : ℕ → ℕ
i_of+128 n = n / 65536

-- j: the floor of N / 256, modulo 256
abbrev pub j_of : ℕ → ℕ
j_of n = n / 256 % 256

-- r: N modulo 256
abbrev pub r_of : ℕ → ℕ
r_of n = n % 256

-- m: the floor of (E(j) * (256 - r) + E(j + 1) * r) / 256
unfoldable pub mix : ℕ → ℕ → ℕ
unfolding entry_of
mix j r = (entry_of j * (256 - r) + entry_of (j + 1) * r) / 256

-- the answer, m * 2 ^ (i - 23): that is m * 2 ^ (i + 126) / 2 ^ 149, and i + 126 is i + 128 less 2
unfoldable pub pow_at : ℕ → Float
unfolding mix odd
pow_at n = odd 24 false (mix (j_of n) (r_of n)) (i_of+128 n - 2) 149

-- 128 and -126
abbrev pub one28 : Float
one28 = fin false 1 (pos 7)

abbrev pub minus126 : Float
minus126 = fin true 63 (pos 1)

-- NaN of a NaN, +infinity from 128 up, 0 below -126, and the rule's answer otherwise
unfoldable pub exp2_of : Float → Float
unfolding is_nan le lt pow_at scaled
exp2_of x = cond (is_nan x) nan (cond (le one28 x) (inf false) (cond (lt x minus126) (fin false 0 (pos 0)) (pow_at (scaled x))))
